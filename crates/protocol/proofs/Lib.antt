pub mod Lists
pub mod Places
pub mod Invariant
pub mod Safety
pub mod Bounds
pub mod Four
pub mod Speaking
pub mod Executing
