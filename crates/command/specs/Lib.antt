pub mod Ready
pub mod Counts
