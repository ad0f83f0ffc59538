pub mod Readback
pub mod Spelled
pub mod Joined
pub mod Splits
pub mod Told
