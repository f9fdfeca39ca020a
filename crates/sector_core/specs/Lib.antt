pub mod Config
pub mod Table
