pub mod Words
pub mod Report
pub mod Described
