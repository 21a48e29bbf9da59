pub mod Header
pub mod Site
pub mod Sites
pub mod Reach
pub mod Reasons
pub mod Answers
