pub mod Endings
pub mod More
