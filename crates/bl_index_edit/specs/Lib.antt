pub mod Posters
pub mod Writers
pub mod Events
pub mod Halves
pub mod Insertions
