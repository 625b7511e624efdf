pub mod Unique
pub mod Bits
pub mod Listed
pub mod Filled
pub mod Answers
pub mod Right
pub mod Exact
pub mod Worked
