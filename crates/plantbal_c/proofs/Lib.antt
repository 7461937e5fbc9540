pub mod AsBox
pub mod BlockLemmas
pub mod FieldLemmas
pub mod HandleSteps
pub mod LookLemmas
pub mod RecordLemmas
