pub mod Kinds
pub mod Places
