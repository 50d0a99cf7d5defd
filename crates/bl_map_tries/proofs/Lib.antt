pub mod GoingOn
pub mod Pieces
