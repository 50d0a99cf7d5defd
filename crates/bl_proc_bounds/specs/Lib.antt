pub mod Searches
pub mod Latches
pub mod Paces
