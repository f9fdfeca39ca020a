pub mod Payload
pub mod Printed
pub mod Texts
pub mod Views
pub mod State
pub mod Naming
pub mod Looks
