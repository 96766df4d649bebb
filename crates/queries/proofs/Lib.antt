pub mod Recorded
pub mod Texts
