-- Scripts: what a line says, what is printed for it, and where a script stops.
pub mod SplitLemmas
pub mod NumberLemmas
pub mod EscapeLemmas
pub mod SpellingLemmas
pub mod MovementLemmas
pub mod WordLemmas
pub mod LaneLemmas
pub mod PrintLemmas
pub mod LineLemmas
pub mod FaultLemmas
