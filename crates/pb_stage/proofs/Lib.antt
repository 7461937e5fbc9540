mod VerdictLemmas
mod DecidedLemmas
mod DropLemmas
mod NodalLemmas
mod EndLemmas
mod GroupLemmas
mod FreeTestLemmas
mod NodalRangeLemmas
mod ShownLemmas
pub mod TestLaws
pub mod StageLaws
pub mod NodalLaws
