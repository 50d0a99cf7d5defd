pub mod Handles
pub mod Meetings
pub mod Maps
pub mod Stamps
pub mod Shrunk
