pub mod Words
pub mod Placed
pub mod Laws
