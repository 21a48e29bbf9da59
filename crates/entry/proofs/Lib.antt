-- The laws that this crate and the crates above cite.
pub mod Laws
mod Ways
