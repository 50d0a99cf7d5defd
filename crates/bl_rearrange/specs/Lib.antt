pub mod Entered
pub mod Joined
pub mod Neighbours
pub mod Rearranged
