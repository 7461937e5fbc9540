-- Statement
pub mod Rows
pub mod TakenOut
pub mod Edits
pub mod Assays
pub mod Refusals
pub mod Costs
pub mod Windows
pub mod Answer
pub mod VersionOne
pub mod Accepted
pub mod Named
pub mod Live
pub mod Plain
pub mod Written
pub mod Laws
-- Inside
pub mod Causes
pub mod Kept
