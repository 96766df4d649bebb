pub mod Tagged
pub mod Parts
