-- The laws that this crate and the crates above cite: of the stack, of pops, of the run of a frame, and of how it can end.
pub mod Words
pub mod Pops
pub mod Runs
pub mod Clean
pub mod Steps
pub mod Reasons
