-- The text of a line, and the table of its line starts.
pub mod Starting
pub mod TailLemmas
pub mod GapLemmas
pub mod BlockLemmas
pub mod LineStartLemmas
pub mod RoomyLemmas
pub mod LineReadLemmas
pub mod FirstLineLemmas
pub mod RowLemmas
