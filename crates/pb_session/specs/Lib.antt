-- Statement
pub mod Appending
pub mod Criticals
pub mod Session
pub mod FirstStage
pub mod Laws
pub mod Edited
pub mod Agreeing
pub mod Renumbered
pub mod Kept
pub mod KeptLaws
pub mod Closed
pub mod VersionOne
-- Inside
pub mod Accepted
pub mod Keeping
