-- One command of a session.
pub mod PairLemmas
pub mod SessionLemmas
pub mod BytesLemmas
pub mod ReplyLemmas
pub mod IdleLemmas
pub mod CourseLemmas
pub mod CommandLemmas
pub mod RestartLemmas
pub mod WatchLemmas
pub mod QuietLemmas
pub mod StepLemmas
pub mod LimitLemmas
pub mod PerformLemmas
pub mod WaitingLemmas
pub mod TypingLemmas
