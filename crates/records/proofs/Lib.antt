-- The lemmas of this crate: positions in a record, what stands at a cursor, its bytes, whole inputs, counts.
pub mod Contents
pub mod Counting
pub mod Cursor
pub mod Encoding
pub mod Positions
pub mod Seen
