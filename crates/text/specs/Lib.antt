pub mod Text
pub mod Laws
