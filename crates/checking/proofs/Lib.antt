pub mod Blanks
pub mod Calls
pub mod Exactly
pub mod Opening
pub mod Queries
pub mod Whole
