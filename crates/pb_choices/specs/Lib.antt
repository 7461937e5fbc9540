-- Statement
pub mod Places
