pub mod Counts
pub mod Words
pub mod Answered
pub mod Printed
pub mod Short
