pub mod Maps
pub mod Histories
pub mod Examples
mod Lookups
mod Places
pub mod Parts
pub mod Falling
pub mod Steps
mod Written
pub mod Beginnings
pub mod Decisions
