pub mod Index
pub mod Table
pub mod Parts
pub mod Answers
pub mod Read
