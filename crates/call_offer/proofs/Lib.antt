pub mod Readings
pub mod Replaying
pub mod Considered
