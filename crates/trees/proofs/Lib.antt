pub mod Induction
pub mod Limits
pub mod Lines
pub mod Rebuild
pub mod Spelling
pub mod Table
pub mod Unique
