pub mod Pieces
pub mod Spelt
