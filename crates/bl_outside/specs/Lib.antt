pub mod Crashes
pub mod Tapes
