pub mod Common
pub mod Records
