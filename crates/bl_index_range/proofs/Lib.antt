pub mod Told
pub mod Looks
pub mod PartsMade
pub mod LeafParts
pub mod OneMoment
pub mod RangeSteps
