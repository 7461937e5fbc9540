-- Statement
pub mod Forest
pub mod Flows
pub mod Laws
-- Inside
pub mod Trees
pub mod Balancing
