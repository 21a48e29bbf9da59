-- The laws that this crate and the crates above cite, by what they are laws of.
pub mod Picks
pub mod Checks
pub mod Rules
pub mod Places
pub mod Digits
pub mod Ends
pub mod Words
pub mod Views
pub mod Walks
pub mod Answers
