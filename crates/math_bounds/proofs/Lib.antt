pub mod Near
pub mod Chain
pub mod Compose
pub mod Order
pub mod Delay
pub mod First
pub mod Spike
