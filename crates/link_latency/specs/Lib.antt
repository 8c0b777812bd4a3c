pub mod Latency
pub mod Admitted
