pub mod Routes
pub mod WordEdits
