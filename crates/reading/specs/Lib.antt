pub mod Decide
pub mod Faults
pub mod Frame
pub mod Law
pub mod Progress
pub mod Stack
pub mod Text
