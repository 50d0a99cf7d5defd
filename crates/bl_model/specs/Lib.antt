pub mod Map
pub mod History
pub mod Rows
pub mod Plain
pub mod Stream
pub mod Parts
pub mod Replies
pub mod Writes
