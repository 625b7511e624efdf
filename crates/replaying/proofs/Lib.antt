pub mod Pieces
pub mod Printed
pub mod Laws
pub mod Parts
pub mod Feeds
pub mod Unique
pub mod Whole
