pub mod Solo
pub mod SoloLaws
