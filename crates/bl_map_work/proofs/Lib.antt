pub mod Turns
pub mod Lived
pub mod Growth
