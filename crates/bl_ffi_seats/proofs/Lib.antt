pub mod Begun
pub mod Made
pub mod Closings
pub mod PartReplies
mod Written
