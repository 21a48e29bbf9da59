pub mod Image
pub mod Read
pub mod Answers
