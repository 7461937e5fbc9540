mod AlikeLemmas
mod BalanceLemmas
pub mod BoundaryLemmas
pub mod CertificateLemmas
mod CycleLemmas
mod FoundLemmas
mod NeighbourLemmas
pub mod PartLemmas
pub mod ReachLemmas
mod SearchLemmas
mod UnmeasureLemmas
pub mod WalkLemmas
mod PriceLemmas
mod CutLemmas
mod TurnLemmas
mod CirculationLemmas
mod DeterminedLemmas
mod ClassLemmas
pub mod BalanceLaws
mod SameGroupLemmas
mod UnmeasuredPartLemmas
mod NumberLemmas
mod VarianceLemmas
mod GroupLemmas
mod FreeLemmas
mod MadeLemmas
mod NumberingLemmas
mod SomeGroupsLemmas
pub mod GroupLaws
