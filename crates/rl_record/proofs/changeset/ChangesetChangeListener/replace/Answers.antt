use Rattle.rl_record.proofs.changeset.ChangesetChangeListener.replace.Goals as goal

pub returns-clause-done : goal.returns-clause-done
returns-clause-done c = c.replace.ensures.done
