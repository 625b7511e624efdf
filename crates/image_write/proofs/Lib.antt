pub mod Bytes
pub mod Turns
pub mod Counts
pub mod Answers
pub mod Told
pub mod Unique
