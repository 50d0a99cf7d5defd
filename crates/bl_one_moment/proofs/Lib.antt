pub mod Alike
pub mod Living
pub mod Together
pub mod Worlds
pub mod Counting
