pub mod Simulation
pub mod Observed
