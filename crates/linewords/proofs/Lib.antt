pub mod Blanks
pub mod Lists
