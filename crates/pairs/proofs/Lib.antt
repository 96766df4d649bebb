pub mod Paired
pub mod Promised
