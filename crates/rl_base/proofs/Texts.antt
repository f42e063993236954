-- Texts, what changes one, and their lines.
pub mod TextLemmas
pub mod EventLemmas
pub mod SwapLemmas
pub mod SpliceLemmas
pub mod GatheredLemmas
pub mod BlankLemmas
pub mod OccurrenceLemmas
pub mod LineLemmas
pub mod SavingLemmas
pub mod ChecksumLemmas
