pub mod Counts
pub mod Laws
pub mod Lost
pub mod Merges
pub mod Padding
pub mod Shares
