use Rattle.rl_session.proofs.Sessions.WatchLemmas.{reads_nothing, reads_texts, reads_whole}
use Rattle.rl_session.proofs.session.Session.take_report.Goals as goal

pub returns-clause-nothing : goal.returns-clause-nothing
returns-clause-nothing c = rw (← c.self.view_is) (reads_nothing (record { line = c.self.inside.line; pair = c.self.inside.pair; options = c.self.inside.options }))

pub returns-clause-with_texts : goal.returns-clause-with_texts
returns-clause-with_texts c =
    rw (c.take_report.ensures.left, ← c.self.view_is) (reads_texts (record { line = c.self.inside.line; pair = c.self.inside.pair; options = c.self.inside.options }))

pub returns-clause-whole : goal.returns-clause-whole
returns-clause-whole c =
    rw (c.take_report.ensures.left, ← c.self.view_is) (reads_whole (record { line = c.self.inside.line; pair = c.self.inside.pair; options = c.self.inside.options }))
