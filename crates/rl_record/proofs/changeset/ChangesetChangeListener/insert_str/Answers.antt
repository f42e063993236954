use Rattle.rl_record.proofs.changeset.ChangesetChangeListener.insert_str.Goals as goal

pub returns-clause-done : goal.returns-clause-done
returns-clause-done c = c.insert_str.ensures.done
