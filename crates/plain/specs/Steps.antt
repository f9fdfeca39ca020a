-- The steps, one file for each.
pub mod Attach
pub mod Submit
pub mod Reap
pub mod Leave
pub mod Dispatch
pub mod Finish
pub mod Requeue
pub mod GroupMake
pub mod GroupDrop
pub mod SetWeight
pub mod Freeze
pub mod Thaw
pub mod Switch
pub mod Tick
