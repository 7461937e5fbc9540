-- Statement
pub mod First
pub mod Asked
pub mod Faults
pub mod Verdict
pub mod VerdictLaws
pub mod Laws
-- Inside
pub mod Among
pub mod Others
pub mod Pairs
pub mod Places
