mod FitLemmas
mod ItemLemmas
mod KindLemmas
pub mod NameLemmas
pub mod RowLaws
