pub mod Entry
pub mod EntryLaws
pub mod Header
pub mod Naming
