pub mod Alone
pub mod GivingUp
pub mod OffWalk
pub mod PostEnds
pub mod Underway
pub mod Climbs
pub mod Turning
