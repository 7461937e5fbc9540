-- Statement
pub mod StudyStatus
pub mod Studied
-- Inside
pub mod Owned
pub mod Reason
