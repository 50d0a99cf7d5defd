pub mod Given
pub mod Props
pub mod Approaches
pub mod Edits
pub mod Descents
pub mod Growths
pub mod Lowerings
