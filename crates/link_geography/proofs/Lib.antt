pub mod Laws
pub mod Prices
