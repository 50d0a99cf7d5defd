pub mod Worlds
pub mod Observed
pub mod Blank
pub mod Puts
pub mod Compressions
