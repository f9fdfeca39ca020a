pub mod Highest
pub mod Times
