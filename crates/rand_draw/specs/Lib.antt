pub mod Draw
pub mod Fraction
pub mod Real
