-- Statement
pub mod Days
pub mod Facts
pub mod Measurement
pub mod PeriodGraph
pub mod WindowGraph
pub mod Grades
pub mod Laws
-- Inside
pub mod Amounts
