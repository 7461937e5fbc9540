-- Statement
pub mod Between
-- Inside
pub mod Windowed
