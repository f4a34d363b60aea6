pub mod Cleared
pub mod Contents
pub mod Plans
pub mod Reading
pub mod Refusing
pub mod Runs
pub mod Stations
