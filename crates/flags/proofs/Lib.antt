pub mod OneByte
pub mod Begun
pub mod Promised
