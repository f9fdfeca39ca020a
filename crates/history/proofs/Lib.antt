pub mod Room
pub mod Places
pub mod Lines
pub mod Ways
pub mod Calls
pub mod Counts
pub mod Runs
