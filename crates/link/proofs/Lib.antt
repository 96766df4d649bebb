pub mod Answering
pub mod Carrying
pub mod Outcomes
pub mod Checking
