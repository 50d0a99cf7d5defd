pub mod Finding
pub mod Scenes
