pub mod Cells
pub mod Repack
