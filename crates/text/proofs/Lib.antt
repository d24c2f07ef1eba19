-- The lemmas of this crate: what a put writes, digits, pieces, and how long a text can be.
pub mod Hexadecimal
pub mod Pieces
pub mod Writes
