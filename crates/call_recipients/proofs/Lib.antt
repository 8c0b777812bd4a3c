pub mod Simulated
pub mod Stepping
pub mod Onward
pub mod Turns
