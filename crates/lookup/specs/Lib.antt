pub mod Lookup
pub mod Reasons
pub mod Answers
