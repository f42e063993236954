-- The bound of a session's record and of its ring, and what the session forgets beyond it.
use Rattle.std.specs.Prelude.{◌≡◌, ◌∷◌, List, ℕ, Some}
use Rattle.rl_base.specs.KillRing.{within_bytes}
use Rattle.rl_record.specs.Forgetting.{forgotten, gone_within}
use Rattle.rl_line.specs.Entry.{Entry, replay_entries}
use Rattle.rl_session.specs.History.{Holds, StandsAfter}
use Rattle.rl_session.specs.State.{Ends, State, Replays}

-- a session once the oldest units and the oldest texts of the ring beyond its bound were forgotten
abbrev pub within_bound : State → State
within_bound s =
    record s {
      pair = record s.pair {
        ring = within_bytes s.options.bound.ring_bytes s.pair.ring;
        changes = forgotten s.options.bound.entries s.options.bound.bytes s.pair.changes;
      };
    }

-- a session forgot what is beyond its bound
pub record Forgets (old new : State) : Type 0 where
  pub before : Ends old
  pub is : new ≡ within_bound old
  pub after : Ends new

-- the entries that the session forgets
abbrev pub gone : State → List Entry
gone s = gone_within s.options.bound.entries s.options.bound.bytes s.pair.changes.recorded

-- the text that what was forgotten made of the start is the one from which what is left leads to the present text
pub record ReplaysOn (start : List ℕ) (old : State) : Type 0 where
  pub begin : List ℕ
  pub made : replay_entries (gone old) start ≡ Some begin
  pub replays : Replays begin (within_bound old)

-- that text is one of those that were held, and what is left is placed among them from there on
pub record HoldsOn (start : List ℕ) (held : List (List ℕ)) (old : State) : Type 0 where
  pub begin : List ℕ
  pub made : replay_entries (gone old) start ≡ Some begin
  pub before : List (List ℕ)
  pub stands : StandsAfter before begin held
  pub holds : Holds begin (begin ∷ stands.rest) (within_bound old)
