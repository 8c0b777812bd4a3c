pub mod Recipients
pub mod Words
