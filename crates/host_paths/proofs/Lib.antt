pub mod Asked
pub mod Counted
pub mod Operated
pub mod Rounds
