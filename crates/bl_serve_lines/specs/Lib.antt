pub mod Text
pub mod Lines
pub mod Scans
pub mod Served
pub mod Streams
pub mod Options
pub mod Dealt
