pub mod Notes
pub mod Meetings
pub mod Commits
