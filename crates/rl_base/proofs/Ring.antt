-- The kill ring.
pub mod SlotLemmas
pub mod RingLemmas
pub mod KillGroupLemmas
pub mod BoundLemmas
