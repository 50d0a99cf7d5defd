pub mod RowLines
pub mod Steps
