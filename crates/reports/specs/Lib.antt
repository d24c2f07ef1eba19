-- The definitions that contracts cite, here and in the crates above.
pub mod Reporting
