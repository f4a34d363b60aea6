pub mod Decided
pub mod Faults
pub mod Quorums
pub mod Sets
pub mod Watches
pub mod Words
