mod Bits
mod Scale
pub mod True
pub mod Corners
