-- Statement
pub mod DualValue
pub mod Moves
pub mod Best
pub mod Candidates
pub mod Sweeps
pub mod Priced
pub mod Laws
-- Inside
pub mod Border
