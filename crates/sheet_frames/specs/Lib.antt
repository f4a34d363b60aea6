pub mod Entering
pub mod Hex
pub mod Sheets
