pub mod Figures
pub mod Notes
