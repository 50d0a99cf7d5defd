pub mod Lines
pub mod Shares
pub mod Dealt
pub mod OneByOne
pub mod Counting
pub mod AllRows
pub mod Noting
