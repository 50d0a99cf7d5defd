pub mod Arrivals
pub mod Below
pub mod Blank
pub mod Named
pub mod Stepping
