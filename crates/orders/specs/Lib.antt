pub mod Orders
pub mod Contract
