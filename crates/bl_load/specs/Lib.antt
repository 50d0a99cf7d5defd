pub mod Sizes
pub mod Loads
pub mod Trees
