pub mod Spellings
pub mod Shifts
pub mod Respellings
