pub mod Leaves
pub mod Seen
pub mod Passing
