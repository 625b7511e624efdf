pub mod Unique
pub mod Table
pub mod Words
pub mod Cover
pub mod Plan
pub mod Exact
pub mod Cases
