pub mod Userspace
pub mod Laws
pub mod Table
