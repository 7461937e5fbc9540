-- Statement
pub mod Certificate
pub mod Classification
pub mod Laws
pub mod Points
pub mod Tables
pub mod Cuts
pub mod PointLaws
-- Inside
pub mod Chords
pub mod Walk
pub mod Spans
pub mod CutLists
