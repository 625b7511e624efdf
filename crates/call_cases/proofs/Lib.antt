pub mod Latch
pub mod Pump
