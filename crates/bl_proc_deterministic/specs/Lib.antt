pub mod Courses
pub mod One
pub mod Frames
pub mod Retirements
pub mod Refusals
