-- Statement
pub mod Fact
pub mod Facts
pub mod Changes
pub mod Share
pub mod Grade
pub mod Assays
-- Inside
pub mod Kept
pub mod Places
pub mod Shelf
