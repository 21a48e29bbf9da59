pub mod Stack
pub mod Execute
pub mod Run
pub mod Step
pub mod Reasons
pub mod Answers
