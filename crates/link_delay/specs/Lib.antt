pub mod Delay
pub mod Corners
