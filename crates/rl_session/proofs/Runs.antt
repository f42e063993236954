-- Runs of a session, and the laws that hold over them.
pub mod RowLemmas
pub mod PlaceLemmas
pub mod HeldLemmas
pub mod ReportLemmas
pub mod HistoryLemmas
pub mod InGroupLemmas
pub mod UndoGroupLemmas
pub mod CursorLemmas
pub mod GiveBackLemmas
pub mod KillRunLemmas
pub mod CallLemmas
pub mod CallKillLemmas
pub mod EmptyGroupLemmas
pub mod UnitLawLemmas
pub mod CallGroupLemmas
pub mod CallSavePointLemmas
