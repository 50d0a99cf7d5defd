pub mod Files
pub mod Records
pub mod Rows
pub mod Logs
pub mod Memory
pub mod Parts
