pub mod Asking
pub mod AskingLaws
pub mod Operating
pub mod Working
