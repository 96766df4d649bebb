pub mod Refusal
pub mod Rows
pub mod Asked
pub mod Shown
pub mod Laws
