pub mod Judging
pub mod Handling
pub mod Counting
