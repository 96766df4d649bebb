pub mod Find
pub mod Laws
pub mod Cases
