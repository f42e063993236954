pub mod Common
pub mod Lines
pub mod Plans
pub mod Changes
