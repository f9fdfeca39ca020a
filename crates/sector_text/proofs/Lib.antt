pub mod Glyphs
pub mod Hexes
