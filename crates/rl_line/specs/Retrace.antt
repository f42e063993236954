-- A text that goes back over entries, where both cursors of each are asked for.
use Rattle.rl_line.specs.Change.{text_after}
use Rattle.rl_line.specs.Entry.{Entry, inverse}
use Rattle.rl_line.specs.Going.{cursor_stands}
use Rattle.std.specs.Prelude.{List, None, Option, Some, [], if◌then◌else◌, option_and_then, true, ℕ, ◌∷◌}

-- the text after an entry, if it fits and both its cursors stand
abbrev pub walk_after : Entry → List ℕ → Option (List ℕ)
walk_after e text = if cursor_stands true (inverse e) text then text_after true e text else None

-- the text after the entries were taken back so, the last first
abbrev pub walk_back : List Entry → List ℕ → Option (List ℕ)
walk_back [] text = Some text
walk_back (e ∷ es) text = option_and_then (walk_after (inverse e)) (walk_back es text)
