pub mod Bits
pub mod Caps
pub mod Values
