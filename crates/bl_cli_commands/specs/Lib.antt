pub mod Statuses
pub mod Checks
pub mod Replays
pub mod RowTexts
pub mod Made
