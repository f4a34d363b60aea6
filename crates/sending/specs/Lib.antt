pub mod Sends
pub mod Writers
