-- The lemmas of this crate.
pub mod Checking
pub mod Loads
pub mod Lookups
pub mod Orders
pub mod Placing
pub mod Reasoning
pub mod Refusing
pub mod Rounding
pub mod Searches
pub mod Seen
pub mod Setting
pub mod Shifts
pub mod Turns
