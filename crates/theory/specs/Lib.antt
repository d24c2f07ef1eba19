-- The definitions that contracts cite, here and in the crates above.
pub mod Chains
pub mod Consistency
pub mod Models
pub mod Plans
pub mod Rounds
pub mod Rows
