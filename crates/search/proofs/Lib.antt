pub mod Members
pub mod BestFirst
pub mod Order
pub mod Listed
pub mod Ranking
pub mod Raised
pub mod Texts
pub mod Growth
