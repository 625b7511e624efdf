pub mod Fits
pub mod Place
pub mod Round
pub mod Again
pub mod Document
pub mod Lengths
pub mod Promises
pub mod Off
