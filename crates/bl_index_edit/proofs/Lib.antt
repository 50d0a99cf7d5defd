pub mod Written
pub mod Nearing
pub mod AtLeaf
pub mod AtParent
pub mod Spreading
pub mod Splits
pub mod Walked
