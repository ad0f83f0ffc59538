pub mod Counting
pub mod Nesting
pub mod Queries
pub mod Spots
