pub mod Members
pub mod BestFirst
pub mod Chains
pub mod Theorems
