pub mod Bags
pub mod Bounds
pub mod Numbers
pub mod Products
pub mod Same
pub mod Steps
pub mod Terms
