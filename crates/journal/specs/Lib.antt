pub mod Journal
pub mod Laws
