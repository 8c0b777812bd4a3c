pub mod Tables
pub mod Call
