-- What the private functions of one entry say of it: joining, and going over it either way.
use Rattle.rl_base.specs.Event.{apply}
use Rattle.rl_line.specs.Entry.{Changed, Entry, entry_of, event_of, inverse, new_text, old_text}
use Rattle.rl_line.specs.Going.{cursor_stands}
use Rattle.rl_line.specs.declared.change.Change.{Change}
use Rattle.rl_line.specs.declared.change.Way.{Way}
use Rattle.rl_line.specs.declared.change.Way.TheVariants.{Ahead, Back}
use Rattle.std.specs.Prelude.{Bool, List, None, Option, Some, [], if◌then◌else◌, length, map, max, option_and_then, reverse, ℕ, ◌+◌, ◌-◌, ◌<◌, ◌∷◌}

-- the text after an entry, if it fits and the cursor stands
abbrev pub text_after : Bool → Entry → List ℕ → Option (List ℕ)
text_after asks e text = option_and_then (λ now. if cursor_stands asks e now then Some now else None) (apply (event_of e) text)

-- the text after the entries were taken back, the last first
abbrev pub text_back : Bool → List Entry → List ℕ → Option (List ℕ)
text_back asks [] text = Some text
text_back asks (e ∷ es) text = option_and_then (text_after asks (inverse e)) (text_back asks es text)

-- the byte place of a change; a mark has none
abbrev pub place : Entry → Option ℕ
place (Changed kind swap) = Some swap.place
place _ = None

-- the entry that a line takes back when it goes over a change: going ahead, its inverse
abbrev pub entry_to_undo : Way → Change → Entry
entry_to_undo Back change = entry_of change
entry_to_undo Ahead change = inverse (entry_of change)

-- the other way
abbrev pub way_back : Way → Way
way_back Back = Ahead
way_back Ahead = Back

-- the changes as a line goes over them, the last first: going ahead, the first one is gone over first
abbrev pub order : Way → List Change → List Change
order Back changes = changes
order Ahead changes = reverse changes

-- the entries that a line takes back when it goes over the changes
abbrev pub entries_to_undo : Way → List Change → List Entry
entries_to_undo way changes = map (entry_to_undo way) (order way changes)

-- the length of a text of n bytes once an entry was taken back in it
abbrev pub length_back : Entry → ℕ → ℕ
length_back e n = (n - length (new_text e)) + length (old_text e)

-- the same of several entries, the last first
abbrev pub length_back_over : List Entry → ℕ → ℕ
length_back_over [] n = n
length_back_over (e ∷ es) n = length_back e (length_back_over es n)

-- the greatest length on that way
abbrev pub greatest_back_over : List Entry → ℕ → ℕ
greatest_back_over [] n = n
greatest_back_over (e ∷ es) n = max (greatest_back_over es n) (length_back_over (e ∷ es) n)

-- the greatest length when they are made again, the first first
abbrev pub greatest_ahead_over : List Entry → ℕ → ℕ
greatest_ahead_over es n = greatest_back_over (map inverse (reverse es)) n

abbrev pub longest_over : Way → List Entry → ℕ → ℕ
longest_over Back es n = greatest_back_over es n
longest_over Ahead es n = greatest_ahead_over es n

-- on the way over entries a text of n bytes gets longer
abbrev pub Outgrows : List Entry → ℕ → Type 0
Outgrows es n = n < greatest_back_over es n
