mod OnceLemmas
mod RowLemmas
mod StepLemmas
mod WalkLemmas
mod PartLemmas
mod EndLemmas
mod CommandLemmas
pub mod WordLaws
