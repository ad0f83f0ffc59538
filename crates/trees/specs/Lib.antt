pub mod Fold
pub mod Kinds
pub mod Meaning
pub mod Size
pub mod Tree
pub mod Words
pub mod Written
