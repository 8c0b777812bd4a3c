pub mod Offering
pub mod Needed
