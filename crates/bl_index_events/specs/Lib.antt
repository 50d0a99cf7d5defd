pub mod Answered
pub mod Runs
pub mod Refused
pub mod Held
pub mod Rooms
