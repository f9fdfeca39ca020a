pub mod Image
pub mod Kinds
