pub mod Searches
pub mod Parts
pub mod Reclaims
pub mod Lowers
pub mod Processes
