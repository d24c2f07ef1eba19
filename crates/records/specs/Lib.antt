-- The definitions that contracts cite, here and in the crates above.
pub mod Contents
pub mod Counts
pub mod Encoding
pub mod Faults
pub mod Format
pub mod OneRecord
pub mod Reading
