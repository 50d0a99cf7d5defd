pub mod Elements
pub mod AllMet
pub mod Same
pub mod Handed
pub mod Ordered
pub mod LaidAnew
