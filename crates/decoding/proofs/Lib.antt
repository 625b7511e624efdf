pub mod Unique
pub mod Operations
