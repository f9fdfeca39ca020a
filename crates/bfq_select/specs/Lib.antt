pub mod Service
pub mod Course
pub use Rattle.change_record.specs.Tables
pub use Rattle.change_record.specs.Exchange
pub use Rattle.change_record.specs.Machine
pub use Rattle.change_record.specs.Trail
