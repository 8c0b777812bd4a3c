pub mod Admit
pub mod Laws
pub mod Limits
mod Tests
