pub mod Same
pub mod Lookups
pub mod Halving
pub mod PairsIn
pub mod PagesIn
pub mod Writing
pub mod Spelled
pub mod FaultLemmas
pub mod Once
mod MachineExamples
