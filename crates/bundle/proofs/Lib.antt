-- The laws that the proofs of this crate and the crates above cite.
pub mod Laws
pub mod Placed
pub mod Promise
pub mod Input
