pub mod EnteredLemmas
pub mod Cuts
pub mod Parts
pub mod Joins
