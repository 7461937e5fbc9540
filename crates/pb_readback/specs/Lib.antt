-- Statement
pub mod Drafts
pub mod Faults
pub mod Blocks
pub mod Next
pub mod WellFormed
pub mod Written
pub mod Laws
-- Inside
pub mod Reading
