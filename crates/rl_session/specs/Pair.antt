-- A kill ring and a record that hear as one, and a watch beside them.
use Rattle.std.specs.Prelude.{◌≡◌, ◌⊎◌}
use Rattle.rl_base.specs.Event.{Event}
use Rattle.rl_base.specs.KillRing.{KeepsText, ring_step}
use Rattle.rl_base.specs.Watch.{watch_step}
use Rattle.rl_base.specs.declared.listeners.Refusal.{Refusal}
use Rattle.rl_base.specs.declared.listeners.Refusal.TheVariants.{NoMemory}
use Rattle.rl_record.specs.Record.{IsRecorded, record_step}
use Rattle.rl_session.specs.declared.pair.Pair.{Pair}

-- each hears every event by its own step: an insertion or replacement leaves the ring, the start or end of a kill the record
abbrev pub pair_step : Pair → Event → Pair
pair_step p event = record { ring = ring_step p.ring event; changes = record_step p.changes event; watch = watch_step p.watch event }

-- A refusal says that memory is out, and leaves the record and the watch as they were. Either the ring refused an event whose
-- text it keeps, and is as it was too; or the ring heard the event, and the record, which would keep it, refused it.
abbrev pub pair_refused : Pair → Event → Refusal → Pair → Type 0
pair_refused p event why now =
    (why ≡ NoMemory) × (now.changes ≡ p.changes) × (now.watch ≡ p.watch)
    × (((now.ring ≡ p.ring) × KeepsText p.ring event) ⊎ ((now.ring ≡ ring_step p.ring event) × IsRecorded event))
