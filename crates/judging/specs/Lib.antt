pub mod Judge
pub mod Change
pub mod Passed
