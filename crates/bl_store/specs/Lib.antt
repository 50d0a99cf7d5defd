pub mod Opening
pub mod Drafts
pub mod Hands
pub mod Owners
pub mod Sweeps
pub mod Closing
