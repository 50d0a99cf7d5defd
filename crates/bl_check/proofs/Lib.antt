pub mod Reaching
pub mod Within
pub mod Rulings
pub mod Rising
mod Examples
