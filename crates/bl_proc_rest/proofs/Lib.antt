pub mod Patient
pub mod Children
pub mod Missing
pub mod Resting
pub mod Levels
