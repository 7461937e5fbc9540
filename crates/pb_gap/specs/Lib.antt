-- Statement
pub mod Gap
pub mod GapRange
pub mod FlowPair
pub mod Bounds
pub mod StreamBounds
pub mod Statistic
pub mod Nets
pub mod State
pub mod Solution
pub mod Residuals
pub mod Laws
pub mod RangeLaws
pub mod Least
pub mod LeastBounds
pub mod LeastBoundsLaws
-- Inside
pub mod Members
pub mod Iterate
