pub mod Begun
pub mod Growing
pub mod Leaving
pub mod Origins
pub mod Room
pub mod Standing
pub mod Together
