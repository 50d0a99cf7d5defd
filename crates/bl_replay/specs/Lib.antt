pub mod Texts
pub mod Pages
pub mod Plays
pub mod Emits
