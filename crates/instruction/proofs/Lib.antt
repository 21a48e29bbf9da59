-- The laws that this crate and the crates above cite: of bytes, of one instruction, and of the instructions as a walk.
pub mod Table
pub mod Bytes
pub mod Laws
pub mod Program
