pub mod Received
pub mod Answered
pub mod Checked
