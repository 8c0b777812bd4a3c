pub mod Numbers
pub mod Facts
pub mod Calling
