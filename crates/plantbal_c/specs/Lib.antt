-- Statement
pub mod Status
pub mod Asked
pub mod Block
pub mod Counts
pub mod Fields
pub mod Graphs
pub mod Made
pub mod Opened
pub mod Whole
-- Inside
pub mod Next
pub mod Owned
