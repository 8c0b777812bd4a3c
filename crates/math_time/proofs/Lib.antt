pub mod Rounding
pub mod Pattern
pub mod Limits
