pub mod Opening
pub mod Pasts
pub mod Perform
pub mod Showing
