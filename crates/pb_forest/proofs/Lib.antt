mod OrderLemmas
mod SpansLemmas
mod AcyclicLemmas
mod PathLemmas
mod LabelLemmas
mod RankLemmas
mod HoldsLemmas
mod FlowLemmas
mod SideLemmas
mod TreeLemmas
mod ClimbLemmas
mod NetLemmas
mod ChordLemmas
mod SomeForestLemmas
mod FewHeldLemmas
mod SomeBalancedLemmas
mod SomePathLemmas
pub mod ForestLaws
