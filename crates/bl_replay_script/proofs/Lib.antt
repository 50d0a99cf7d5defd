pub mod Numbers
pub mod Endings
pub mod Steps
mod Plain
mod Same
pub mod Readings
