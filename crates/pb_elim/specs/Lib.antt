-- Statement
pub mod Stage
pub mod Elimination
pub mod Study
pub mod Decided
pub mod Laws
-- Inside
pub mod Reconciled
pub mod Results
pub mod Rounds
