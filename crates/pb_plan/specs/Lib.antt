-- Statement
pub mod Plant
pub mod Window
pub mod Graph
pub mod Codes
pub mod Places
pub mod Meaning
pub mod Laws
-- Inside
pub mod Joined
