pub mod Masks
pub mod Seen
pub mod Gone
pub mod Ranged
