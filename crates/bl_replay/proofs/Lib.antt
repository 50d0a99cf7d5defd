pub mod Emitting
pub mod Following
pub mod Adding
pub mod Puts
