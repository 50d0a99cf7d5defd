pub mod Descents
pub mod Tops
pub mod Ways
pub mod Thinness
