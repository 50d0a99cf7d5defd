pub mod Searching
pub mod Turns
pub mod LeafRows
pub mod LeafWays
pub mod Keeping
pub mod Parts
pub mod Sinks
pub mod Together
