-- The reply to a command, made of what the call for it returns.
use Rattle.std.specs.Prelude.{Result, Ok, Err}
use Rattle.rl_session.specs.declared.session.Fault.{Fault}
use Rattle.rl_session.specs.declared.session.Reply.{Reply}
use Rattle.rl_session.specs.declared.session.Reply.TheVariants.{Refused}

-- what was answered is told as that command tells it; else the command was refused
abbrev pub replied : {A : Type 0} → (A → Reply) → Result A Fault → Reply
replied tell (Ok answer) = tell answer
replied tell (Err why) = Refused why
