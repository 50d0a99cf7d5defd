pub mod Bytes
pub mod Chunks
pub mod Spelling
pub mod Stored
pub mod Wholes
pub mod Writes
mod Spelled
