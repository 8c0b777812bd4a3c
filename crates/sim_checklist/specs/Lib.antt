pub mod Checklist
