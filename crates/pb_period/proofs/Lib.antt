mod AmountLemmas
mod DayLemmas
mod GraphLemmas
mod PlainLemmas
mod PlantLemmas
mod TransferLemmas
mod VarianceLemmas
mod UntouchedLemmas
mod OrderLemmas
mod ClosedLemmas
mod WindowLemmas
pub mod GraphLaws
