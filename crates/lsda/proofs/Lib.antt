pub mod Sums
pub mod Turns
pub mod Refused
pub mod Laws
