-- Statement
pub mod Balance
