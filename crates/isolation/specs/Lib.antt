pub mod View
pub mod Trace
pub mod Rights
