pub mod Scans
pub mod Names
pub mod Division
