-- Statement
pub mod Texts
pub mod Wide
pub mod Counts
pub mod Plant
pub mod Periods
pub mod Facts
pub mod Edits
