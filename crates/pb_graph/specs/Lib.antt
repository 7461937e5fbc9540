-- Statement
pub mod ProcessGraph
pub mod Walk
pub mod Boundary
pub mod Cycle
pub mod Path
pub mod Neighbours
pub mod Balance
pub mod Classes
pub mod Certificates
pub mod Squares
pub mod Groups
pub mod Prices
pub mod WellFormed
pub mod Parts
pub mod Alike
pub mod Laws
pub mod PricedSums
pub mod BalanceLaws
pub mod Variance
pub mod Grouping
pub mod GroupLaws
-- Inside
pub mod Search
pub mod Labels
pub mod Steps
pub mod Numbers
