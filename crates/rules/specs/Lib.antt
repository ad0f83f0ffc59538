pub mod Amounts
pub mod Catalogue
pub mod Examples
pub mod Ranges
pub mod Sound
pub mod Typing
