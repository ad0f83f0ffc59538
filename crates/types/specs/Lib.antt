pub mod Faults
pub mod Shown
