-- The definitions that contracts cite, here and in the crates above.
pub mod Pages
pub mod Pieces
pub mod Puts
pub mod Refused
