pub mod Seconds
