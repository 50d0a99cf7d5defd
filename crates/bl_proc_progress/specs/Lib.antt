pub mod Order
pub mod Waits
pub mod Holds
pub mod Ways
