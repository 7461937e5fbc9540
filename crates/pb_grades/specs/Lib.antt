-- Statement
pub mod Grade
pub mod Component
pub mod Laws
