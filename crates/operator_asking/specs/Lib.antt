pub mod Asked
pub mod Ending
pub mod Fault
pub mod Run
