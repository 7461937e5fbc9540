-- Statement
pub mod Verdicts
pub mod Nodal
pub mod Drop
pub mod Decided
pub mod Freedom
pub mod Printed
pub mod StageTests
pub mod Signs
pub mod Certified
pub mod Laws
-- Inside
pub mod Ends
