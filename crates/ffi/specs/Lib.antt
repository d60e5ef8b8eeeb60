pub mod Answers
pub mod Refusals
pub mod Pages
pub mod Rows
pub mod Runs
