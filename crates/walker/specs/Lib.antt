pub mod Walker
pub mod Answers
