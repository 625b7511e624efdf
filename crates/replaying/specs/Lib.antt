pub mod Printing
pub mod Feeding
