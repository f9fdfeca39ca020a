pub mod Best
pub mod Entries
pub mod TakeRules
