pub mod Ways
pub mod Events
