pub mod Backing
pub mod Recounting
