pub mod Run
pub mod Times
pub mod Texts
