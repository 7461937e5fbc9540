-- Statement
pub mod Bytes
pub mod Records
pub mod RecordsLeft
pub mod Name
pub mod Reason
pub mod Number
pub mod Date
pub mod Written
pub mod Texts
-- Inside
pub mod Forms
pub mod InHand
pub mod Padded
pub mod Hashed
