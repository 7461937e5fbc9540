-- Statement
pub mod Codes
pub mod Kinds
pub mod Texts
pub mod Lists
pub mod Values
pub mod Beside
pub mod Results
pub mod Laws
-- Inside
pub mod Held
pub mod Counts
