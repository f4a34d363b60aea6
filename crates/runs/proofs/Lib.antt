pub mod Changes
pub mod Extending
