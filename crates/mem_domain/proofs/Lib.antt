pub mod Unique
pub mod Scan
pub mod Domain
pub mod Slots
pub mod Upstream
pub mod Cases
