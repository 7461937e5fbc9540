mod AlikeLemmas
mod UniqueLemmas
mod RoundLemmas
mod ChordLemmas
mod CycleLemmas
mod ItemLemmas
mod SomeClassificationLemmas
pub mod ClassificationLaws
mod BridgeLemmas
mod EntryLemmas
mod StackLemmas
mod OverLemmas
mod SpanLemmas
mod PointLemmas
mod SideLemmas
mod CutLemmas
pub mod AlikeLaws
