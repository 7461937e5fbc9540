-- Statement
pub mod Judgement
pub mod Next
pub mod Laws
-- Inside
pub mod Judging
