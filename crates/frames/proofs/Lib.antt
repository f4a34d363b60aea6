pub mod Bodies
pub mod Headers
pub mod Judging
pub mod Sending
pub mod Whole
