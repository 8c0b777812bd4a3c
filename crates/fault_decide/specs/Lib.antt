pub mod Decide
pub mod Edges
