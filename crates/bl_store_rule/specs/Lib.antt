pub mod Pages
pub mod Frames
pub mod Observed
