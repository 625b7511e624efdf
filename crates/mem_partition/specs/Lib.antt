pub mod Partition
