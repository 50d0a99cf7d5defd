pub mod Counting
pub mod Seen
pub mod Noted
pub mod Each
pub mod Rounds
pub mod Led
pub mod Committed
pub mod Opened
