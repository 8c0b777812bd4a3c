pub mod Ladder
pub mod Rates
pub mod Sums
pub mod Number
pub mod Made
