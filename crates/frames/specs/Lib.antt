pub mod Kinds
pub mod Meaning
pub mod Said
pub mod Views
pub mod Writing
