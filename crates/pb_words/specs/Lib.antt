-- Statement
pub mod Parts
pub mod Given
pub mod Command
pub mod Line
pub mod Args
pub mod Laws
