pub mod Heads
pub mod Whole
