-- The definitions that contracts cite, here and in the crates above.
pub mod Calls
pub mod Held
pub mod Judging
pub mod Left
pub mod Loading
pub mod Passes
pub mod Places
