pub mod Writes
pub mod Levels
pub mod Posts
pub mod Paths
pub mod Placings
pub mod Stands
pub mod InsertPosts
