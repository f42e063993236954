-- Grapheme clusters, words, hits of a character, and widths.
pub mod ClusterLemmas
pub mod PieceLemmas
pub mod ClassLemmas
pub mod WordLemmas
pub mod SearchLemmas
pub mod WidthLemmas
pub mod CellLemmas
pub mod RowLemmas
