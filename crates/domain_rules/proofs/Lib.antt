pub mod All
pub mod Sound
pub mod Unique
