-- The plans of the edits, and their steps.
pub mod PlanLemmas
pub mod HearingLemmas
pub mod SideLemmas
pub mod EditLemmas
pub mod KillLemmas
pub mod TranspositionLemmas
pub mod LetterCaseLemmas
pub mod LimitLemmas
pub mod IndentLemmas
