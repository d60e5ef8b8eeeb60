pub mod Few
pub mod Shape
pub mod Faults
pub mod Reading
pub mod Writing
pub mod Laws
pub mod Answers
