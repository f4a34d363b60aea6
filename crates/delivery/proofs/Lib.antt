pub mod Frames
pub mod Indices
pub mod Joining
pub mod Outcomes
pub mod Prepares
pub mod Said
pub mod Settling
