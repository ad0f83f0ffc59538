pub mod Check
pub mod Faults
pub mod Fills
pub mod Opening
pub mod Query
pub mod Reading
pub mod Typed
