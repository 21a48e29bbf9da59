pub mod Bytes
pub mod Decode
pub mod Program
pub mod Answers
