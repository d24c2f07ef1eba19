-- The lemmas of this crate.
pub mod Largest
pub mod Runs
pub mod StateLines
