pub mod Numbers
pub mod Long
pub mod Examples
pub mod Known
mod Cuts
pub mod Sections
pub mod LineOrder
pub mod Keys
pub mod Dealing
pub mod Listed
