pub mod Bundle
pub mod Read
pub mod Audit
pub mod Promise
pub mod Answers
