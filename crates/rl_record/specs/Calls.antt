-- The calls of a record that touch no line.
use Rattle.rl_line.specs.Entry.{replay_entries}
use Rattle.rl_line.specs.Going.{texts_ahead}
use Rattle.rl_record.specs.Record.{Record, parted, replays_to}
use Rattle.rl_record.specs.Units.{IsMatched, begun, ended, ended_one, kept_undone, reopened, there_and_back, truncated}
use Rattle.std.specs.Prelude.{IsSome, List, [], true, ℕ, ◌≡◌}

pub data RecordCall : Type 0 where
  parts_next : RecordCall
  puts_begin : RecordCall
  puts_ends : RecordCall
  puts_end : RecordCall
  reopens : RecordCall
  keeps_undone : RecordCall
  shortens : (len : ℕ) → RecordCall

-- the record after each
abbrev pub after_call : RecordCall → Record → Record
after_call parts_next r = parted r
after_call puts_begin r = begun r
after_call puts_ends r = ended r
after_call puts_end r = ended_one r
after_call reopens r = reopened r
after_call keeps_undone r = kept_undone r
after_call (shortens len) r = truncated len r

-- where a call may come: what it keeps fits the text, and what it drops changes nothing of that
abbrev pub MayCome : RecordCall → Record → List ℕ → Type 0
MayCome keeps_undone r text = IsMatched r.pending × IsSome (replay_entries r.pending text)
MayCome (shortens len) r text = replays_to len r text ≡ true
MayCome _ r text = Unit {0}

-- the texts on its way: where what was undone is kept, those there and back
abbrev pub texts_of_call : RecordCall → Record → List ℕ → List (List ℕ)
texts_of_call keeps_undone r text = texts_ahead (there_and_back r.pending) text
texts_of_call _ r text = []
