pub mod Held
pub mod TillRow
