pub mod Above
pub mod Framing
pub mod Spoken
