-- Entries that lead from a text to another, with the cursors that they were told.
use Rattle.rl_base.specs.Event.{apply}
use Rattle.rl_line.specs.Entry.{Entry, change_count, event_of, inverse}
use Rattle.rl_line.specs.Going.{cursor_stands}
use Rattle.rl_line.specs.declared.change.Way.{Way}
use Rattle.rl_line.specs.declared.change.Way.TheVariants.{Ahead, Back}
use Rattle.std.specs.Prelude.{List, Some, [], true, ℕ, ◌<◌, ◌∷◌, ◌≡◌}
use Rattle.std.specs.Str.{IsUtf8}

-- an entry leads from a text to another, and its cursors before and after it, if told, stand between two characters there
pub record LeadsTo (e : Entry) (text now : List ℕ) : Type 0 where
  pub makes : apply (event_of e) text ≡ Some now
  pub before : cursor_stands true (inverse e) text ≡ true
  pub after : cursor_stands true e now ≡ true

-- so do entries, the first first
abbrev pub Walk : List Entry → List ℕ → List ℕ → Type 0
Walk [] text now = text ≡ now
Walk (e ∷ es) text now = (mid : List ℕ) × LeadsTo e text mid × Walk es mid now

-- entries walk to a text, or on from it
abbrev pub WalksOver : Way → List Entry → List ℕ → Type 0
WalksOver Back es text = (start : List ℕ) × IsUtf8 start × Walk es start text
WalksOver Ahead es text = (end : List ℕ) × Walk es text end

-- several changes are among entries
abbrev pub HasSeveral : List Entry → Type 0
HasSeveral es = 1 < change_count es
