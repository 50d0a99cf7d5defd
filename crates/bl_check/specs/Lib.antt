pub mod Spans
pub mod Rules
pub mod Reports
pub mod Rows
pub mod Faults
pub mod Walks
