pub mod Ranks
pub mod Chains
pub mod Order
pub mod Held
pub mod Searched
