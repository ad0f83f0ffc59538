pub mod Moves
pub mod Stability
pub mod Weights
