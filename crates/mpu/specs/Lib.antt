pub mod Table
pub mod Mpu
pub mod Edges
