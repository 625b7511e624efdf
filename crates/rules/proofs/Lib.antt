pub mod Bits
pub mod Rules
pub mod Pass
pub mod Ways
pub mod Slots
pub mod Unique
