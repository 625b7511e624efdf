pub mod Decimal
pub mod Hex
pub mod Laws
pub mod Unique
