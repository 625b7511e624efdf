pub mod Scan
pub mod Sound
