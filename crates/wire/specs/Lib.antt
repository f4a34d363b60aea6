pub mod Slots
pub mod Wires
