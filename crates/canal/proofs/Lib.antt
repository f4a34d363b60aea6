pub mod Fronts
pub mod Packing
