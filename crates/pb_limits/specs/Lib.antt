-- Statement
pub mod Limits
pub mod Ranges
pub mod Laws
