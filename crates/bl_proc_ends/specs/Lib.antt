pub mod Left
pub mod Budget
