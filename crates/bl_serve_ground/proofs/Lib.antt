pub mod Doubling
pub mod Gathered
pub mod Beginning
pub mod Leaving
pub mod LaidAnew
pub mod Rests
