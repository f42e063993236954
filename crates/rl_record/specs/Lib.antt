pub mod Record
pub mod Entries
pub mod Units
pub mod Forgetting
pub mod Trying
pub mod Undo
pub mod Calls
pub mod SavedRecord
