pub mod Number
pub mod Pointer
pub mod Reads
pub mod Answers
