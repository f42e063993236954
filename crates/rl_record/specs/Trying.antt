-- An undo and a redo in a line that the record may not fit, and such as keep to the line's limit.
use Rattle.rl_base.specs.declared.listeners.Refusal.{Refusal}
use Rattle.rl_base.specs.declared.listeners.Refusal.TheVariants.{NoMemory}
use Rattle.rl_line.specs.Line.{Line, NeedsRoom}
use Rattle.rl_record.specs.Record.{Record}
use Rattle.std.specs.Prelude.{Any, Bool, List, None, Option, Some, false, true, ℕ, ◌≡◌, ◌⊎◌}

-- what is tried: where the line can go over the entries it is done, and else record and line are as they were
abbrev pub Tried : (Bool → Type 0) → Option Line → Record → Record → Line → Line → Option Bool → Type 0
Tried Done over old new line line' (Some answer) = Done answer
Tried Done over old new line line' None = (over ≡ None) × (new ≡ old) × (line' ≡ line)

-- memory is out for what is tried: for the copy on which several entries are tried, or for a text on the way. Record and line
-- are as they were
abbrev pub TriedInVain : Type 0 → List (List ℕ) → Record → Record → Line → Line → Refusal → Type 0
TriedInVain Copies texts old new line line' why = (why ≡ NoMemory) × (new ≡ old) × (line' ≡ line) × (Copies ⊎ Any (NeedsRoom line.text) texts)

-- what keeps to the line's limit all the way is done; else record and line are as they were
abbrev pub DoneWithin : (Bool → Type 0) → Bool → Record → Record → Line → Line → Option Bool → Type 0
DoneWithin Done keeps old new line line' (Some answer) = (keeps ≡ true) × Done answer
DoneWithin Done keeps old new line line' None = (keeps ≡ false) × (new ≡ old) × (line' ≡ line)
