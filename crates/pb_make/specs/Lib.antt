-- Statement
pub mod Draws
pub mod Plant
pub mod Readings
pub mod Rows
pub mod Laws
-- Inside
pub mod Bounds
