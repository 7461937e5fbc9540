-- Statement
pub mod Quotients
pub mod Search
pub mod Roots
pub mod Blocks
pub mod Laws
pub mod Sums
pub mod IntegerLaws
