pub mod Deliveries
pub mod Hearings
pub mod Meetings
pub mod Tellings
