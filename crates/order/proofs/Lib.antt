pub mod Comparing
pub mod Parts
pub mod Searching
pub mod Sequence
pub mod Spans
pub mod Ranges
