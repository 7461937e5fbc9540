mod ThereLemmas
mod RangeLemmas
mod VersionLemmas
mod RequestLemmas
mod CostLemmas
mod WrittenLemmas
mod ReadingLemmas
pub mod KindLaws
