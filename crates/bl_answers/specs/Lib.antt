pub mod Hints
pub mod Thin
