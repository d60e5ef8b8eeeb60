pub mod Orders
pub mod Counts
pub mod Benches
pub mod Texts
pub mod Lines
pub mod Searches
