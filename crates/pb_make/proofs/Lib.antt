mod Abbreviations
mod BalanceLemmas
mod DeclaredLemmas
mod DrawLemmas
mod MadeLemmas
mod NameLemmas
mod PlantLemmas
mod ReadingLemmas
mod RequestLemmas
mod RowsLemmas
mod SessionLemmas
mod TakenLemmas
pub mod MakeLaws
