pub mod Answering
pub mod Noting
pub mod Shares
