pub mod Line
pub mod Input
