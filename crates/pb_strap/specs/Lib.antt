-- Statement
pub mod Table
-- Inside
pub mod Kept
