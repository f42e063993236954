use Rattle.rl_session.proofs.Common.{◌≡◌, ℕ, true, false, List, Option, None, Some, refl, MatchOption, Says, Do, pos, move, ins, twords, cased, kill, copy, indent, dedent, undo, trunc, holds_text, deletes, SaysNoDeletion, SaysNoCommand, Command}
use Rattle.rl_session.specs.Grammar.{yank}
use Rattle.rl_session.proofs.grammar.command.Goals as goal
use Rattle.rl_session.proofs.grammar.command.Goals.{After-deletion}

-- none of these words stands there, so only a deletion can be said
others : (c : After-deletion) (w given : List ℕ) (command : Command) → c.args.word.now ≡ w → holds_text command ≡ false → Says w (Some given) (Do command) → deletes command ≡ true
others c w given command e even (ins p s) = absurd (c.in_default.not-ins e)
others c w given command e even (pos p) = absurd (c.in_default.not-pos e)
others c w given command e even (move p) = absurd (c.in_default.not-move e)
others c w given command e even (yank p) = absurd (c.in_default.not-yank e)
others c w given command e even (twords p) = absurd (c.in_default.not-twords e)
others c w given command e even (cased p) = absurd (c.in_default.not-case e)
others c w given command e even (kill p) = absurd (c.in_default.not-kill e)
others c w given command e even (copy p) = absurd (c.in_default.not-copy e)
others c w given command e even (indent p) = absurd (c.in_default.not-indent e)
others c w given command e even (dedent p) = absurd (c.in_default.not-dedent e)
others c w given command e even (undo p) = absurd (c.in_default.not-undo e)
others c w given command e even (trunc p) = absurd (c.in_default.not-trunc e)
others c w given command e even _ = cc

-- so the word says no more than the deletion does
or_deletion : (c : After-deletion) (said : Option Command) → MatchOption said (SaysNoDeletion c.args.word.now c.args.given.now) (λ command. Says c.args.word.now (Some c.args.given.now) (Do command))
    → MatchOption said (SaysNoCommand c.args.word.now c.args.given.now) (λ command. Says c.args.word.now (Some c.args.given.now) (Do command))
or_deletion c None none = λ command even is. none command (others c c.args.word.now c.args.given.now command refl even is) is
or_deletion c (Some command) is = is

pub returns-in_default : goal.returns-in_default
returns-in_default c = or_deletion c c.deletion.result c.deletion.ensures
