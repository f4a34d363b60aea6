pub mod Backing
pub mod Deciding
pub mod Meeting
pub mod Members
pub mod Words
