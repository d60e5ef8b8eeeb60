pub mod Answers
pub mod Desks
pub mod Marks
pub mod Replies
pub mod Tasks
pub mod Words
