pub mod FromFn
pub mod Unique
