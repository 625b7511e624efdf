pub mod Unique
pub mod Tests
pub mod Partition
