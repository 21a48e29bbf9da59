pub mod Search
pub mod Rising
pub mod Reasons
pub mod Answers
