pub mod Arrivals
pub mod Padding
pub mod Parts
pub mod Plain
pub mod Routes
pub mod Signs
pub mod Spreading
