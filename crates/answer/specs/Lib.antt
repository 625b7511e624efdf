pub mod Answer
pub mod Tests
pub mod Stores
pub mod Given
