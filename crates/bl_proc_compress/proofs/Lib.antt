pub mod Looks
pub mod Places
