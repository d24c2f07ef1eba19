-- The lemmas of this crate: how long a line can be, and the loop over the records.
pub mod LineLengths
pub mod Sofar
