pub mod Scan
pub mod Domain
pub mod Upstream
