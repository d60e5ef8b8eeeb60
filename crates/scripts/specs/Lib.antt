pub mod Words
pub mod Scripts
pub mod Settings
