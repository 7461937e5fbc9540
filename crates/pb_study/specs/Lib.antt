-- Statement
pub mod WellFormed
pub mod Options
pub mod Criticals
