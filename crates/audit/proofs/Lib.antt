-- How the audit goes on, that it passes exactly the sound images, and that these keep the promise.
pub mod Turns
pub mod Exact
pub mod Promise
pub mod Reasons
pub mod Witness
