pub mod Bytes
pub mod Geography
