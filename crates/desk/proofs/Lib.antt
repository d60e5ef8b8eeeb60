pub mod Asked
pub mod Begun
pub mod Found
pub mod Replies
pub mod Rooms
