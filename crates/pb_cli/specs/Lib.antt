-- Statement
pub mod Status
pub mod Prefix
pub mod Summary
pub mod Run
pub mod Program
pub mod Laws
-- Inside
pub mod Judging
