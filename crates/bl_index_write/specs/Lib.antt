pub mod Events
pub mod Climbing
pub mod Kinds
pub mod Briefs
