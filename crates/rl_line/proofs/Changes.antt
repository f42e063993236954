-- Entries and changes, and how a text and a line go over them.
pub mod PatchLemmas
pub mod ReachLemmas
pub mod InverseLemmas
pub mod ChangeLemmas
pub mod BackLemmas
pub mod GoingLemmas
pub mod RoomLemmas
pub mod WalkLemmas
