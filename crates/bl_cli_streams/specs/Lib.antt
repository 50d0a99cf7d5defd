pub mod Counted
pub mod DumpStatuses
