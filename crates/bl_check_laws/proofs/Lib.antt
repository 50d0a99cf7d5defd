pub mod Beginnings
pub mod RowLemmas
pub mod SameNodes
pub mod RowsFound
pub mod Opened
pub mod Resting
mod Examples
pub mod FirstMaps
