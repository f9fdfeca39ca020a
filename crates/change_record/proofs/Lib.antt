pub mod Exchanges
pub mod Pieces
pub mod Walk
pub mod Trails
