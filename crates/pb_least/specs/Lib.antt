-- Statement
pub mod Laws
