pub mod Blocks
pub mod Laws
pub mod Levels
pub mod Places
pub mod Round
