pub mod Audit
pub mod Sound
pub mod Promise
pub mod Reasons
pub mod Witness
pub mod Answers
