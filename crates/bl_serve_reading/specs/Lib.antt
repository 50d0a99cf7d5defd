pub mod Syncs
pub mod Reading
