-- Statement
pub mod Apart
pub mod Ranges
pub mod Touching
pub mod Closing
pub mod Windows
-- Inside
pub mod Kept
