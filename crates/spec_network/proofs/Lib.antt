pub mod Opened
pub mod Runs
pub mod Hash
