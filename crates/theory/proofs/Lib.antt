-- The lemmas that the crates above cite.
pub mod Below
pub mod Chains
pub mod Consistency
pub mod Ranks
pub mod Listed
pub mod Plans
pub mod Rounds
pub mod Rows
pub mod Sameness
pub mod Standing
pub mod Totals
pub mod Usable
