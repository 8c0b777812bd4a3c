pub mod Blake3
