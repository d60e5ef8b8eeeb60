pub mod Calendar
pub mod Joined
