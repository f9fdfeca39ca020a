pub mod Slots
pub use Rattle.sector_core.specs.Table
