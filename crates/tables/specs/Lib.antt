pub mod Rows
pub mod Tabulate
pub mod Table
pub mod Laws
pub mod State
