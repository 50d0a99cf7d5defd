pub mod SeatSteps
pub mod LooseSteps
pub mod Called
pub mod Placing
pub mod ClosedTo
pub mod Listing
pub mod RangeCodes
pub mod ScanCodes
