pub mod Numbered
pub mod Judged
pub mod Capitals
pub mod Shapes
pub mod Promised
pub mod Shows
