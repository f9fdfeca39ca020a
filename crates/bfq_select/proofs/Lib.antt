pub mod Looking
pub mod Courses
pub mod Bounds
pub mod Paths
pub mod Levels
pub mod Slots
