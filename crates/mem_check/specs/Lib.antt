pub mod Memory
pub mod Windows
pub mod Runs
