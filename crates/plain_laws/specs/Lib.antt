pub mod Requests
pub mod Owed
pub mod Whole
pub mod Times
pub mod Undone
