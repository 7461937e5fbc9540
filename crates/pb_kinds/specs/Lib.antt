-- Statement
pub mod Requests
pub mod Costs
pub mod Ranges
pub mod Effects
pub mod Versions
pub mod Laws
-- Inside
pub mod There
