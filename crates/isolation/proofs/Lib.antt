pub mod Step
pub mod Views
pub mod Own
pub mod Others
pub mod Gain
pub mod Runs
pub mod Rules
