pub mod Decided
pub mod Running
pub mod Gathered
pub mod Keeping
