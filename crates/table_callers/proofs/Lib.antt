-- The lemmas of this crate.
pub mod Computed
pub mod Steps
