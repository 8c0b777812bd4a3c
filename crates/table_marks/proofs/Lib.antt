pub mod Search
pub mod Rising
pub mod Laws
pub mod Tills
pub mod Parts
pub mod Both
pub mod Ordered
