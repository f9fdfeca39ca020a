pub mod Fill
pub mod Work
