pub mod Pieces
pub mod Unique
