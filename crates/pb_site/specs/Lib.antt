-- Statement
pub mod Service
pub mod Row
pub mod Site
pub mod Faults
pub mod OnDays
pub mod Laws
-- Inside
pub mod Kept
