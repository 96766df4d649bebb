pub mod Known
pub mod Promised
