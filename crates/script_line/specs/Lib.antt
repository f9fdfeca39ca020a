pub mod Line
pub mod Look
pub mod Plain
pub mod Query
pub mod Words
pub mod Script
pub mod Steps
