pub mod Shares
pub mod CompressStands
pub mod Ways
