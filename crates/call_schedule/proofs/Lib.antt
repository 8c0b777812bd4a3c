pub mod Pushing
pub mod Applying
