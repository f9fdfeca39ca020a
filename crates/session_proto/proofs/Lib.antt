pub mod Frames
pub mod Nexts
pub mod Streams
mod ClientStreams
mod Bytes
mod FrameLengths
mod Steps
