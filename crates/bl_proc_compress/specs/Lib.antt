pub mod Compressions
pub mod Compresses
