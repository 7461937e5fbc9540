mod ListLemmas
mod TakenLemmas
mod SuspectLemmas
mod RoundLemmas
mod NextLemmas
mod FormedLemmas
mod TestLemmas
mod DecidedLemmas
mod ReconciledLemmas
mod SolutionLemmas
mod UniqueLemmas
mod StageLemmas
mod SomeStudyLemmas
mod WithinLemmas
mod ThroughoutLemmas
pub mod StudyLaws
