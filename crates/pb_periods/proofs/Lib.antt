pub mod PeriodLemmas
pub mod NameLemmas
pub mod WindowPlantLemmas
mod ByNameLemmas
mod WindowLemmas
