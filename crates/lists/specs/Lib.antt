pub mod Lists
pub mod Calls
