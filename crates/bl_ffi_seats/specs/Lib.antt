pub mod Seats
pub mod Opened
pub mod Closed
