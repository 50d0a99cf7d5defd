pub mod Living
pub mod Written
mod Dealing
mod Ending
mod Examples
