pub mod Distance
pub mod Laws
pub mod Plain
