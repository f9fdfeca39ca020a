pub mod Payloads
pub mod Placing
pub mod Renaming
pub mod Queues
pub mod Sectors
