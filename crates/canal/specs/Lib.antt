pub mod Layout
pub mod GateOrders
pub mod Transfers
