pub mod Worked
pub mod Texts
