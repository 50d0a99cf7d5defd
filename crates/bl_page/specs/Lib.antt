pub mod Pairs
pub mod Pages
pub mod Words
pub mod Faults
pub mod Machine
pub mod Nodes
pub mod Tops
