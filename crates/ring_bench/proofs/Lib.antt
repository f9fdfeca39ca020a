pub mod Last
pub mod Stays
