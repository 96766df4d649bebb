pub mod Turns
pub mod Bools
pub mod Closing
pub mod Promised
pub mod TestID
pub mod Three
pub mod Worked
