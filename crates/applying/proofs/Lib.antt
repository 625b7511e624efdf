pub mod Ops
pub mod Picture
pub mod InRange
