pub mod Climbs
pub mod Kept
