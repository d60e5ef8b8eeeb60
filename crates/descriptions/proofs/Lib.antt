pub mod Padded
pub mod Truths
