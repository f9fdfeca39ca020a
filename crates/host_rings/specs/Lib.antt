pub mod Names
pub mod Nearer
pub mod Warning
pub mod Watched
pub mod Workers
