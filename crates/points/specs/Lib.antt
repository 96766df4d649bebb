pub mod Units
pub mod Axes
pub mod Point
pub mod Laws
pub mod Cases
