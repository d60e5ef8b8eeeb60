pub mod Parts
pub mod Histories
pub mod Moments
pub mod Onward
pub mod Determined
