pub mod Memory
pub mod Windows
pub mod Cases
pub mod Unique
