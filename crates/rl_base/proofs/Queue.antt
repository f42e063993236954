-- A queue of reports.
pub mod QueueLemmas
pub mod LeadLemmas
