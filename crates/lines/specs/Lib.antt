pub mod Faults
pub mod Heading
pub mod Line
pub mod Number
pub mod Shown
pub mod Split
