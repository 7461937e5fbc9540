-- Statement
pub mod Flows
pub mod Nodal
pub mod Closing
pub mod PlainText
pub mod Agreement
pub mod Between
pub mod Drops
pub mod Metering
pub mod Options
pub mod WindowParts
