pub mod Public
