pub mod Bags
pub mod Notes
pub mod Numbers
pub mod Terms
pub mod Told
