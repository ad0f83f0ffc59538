pub mod Addends
pub mod Bench
pub mod Fits
pub mod Plants
pub mod Queries
pub mod Sums
