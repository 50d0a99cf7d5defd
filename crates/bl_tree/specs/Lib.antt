pub mod Trees
pub mod Moves
pub mod SoundNodes
pub mod Starts
