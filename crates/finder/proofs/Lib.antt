pub mod Blocks
pub mod Search
pub mod Finding
pub mod Promised
pub mod Worked
