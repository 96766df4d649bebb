pub mod Walk
pub mod Codec
pub mod Fitting
pub mod Keeping
pub mod Adding
pub mod Back
pub mod Again
pub mod Promised
