pub mod Certified
pub mod Indices
pub mod Items
pub mod Opened
pub mod Lengths
pub mod Stages
pub mod Readable
pub mod Fronts
