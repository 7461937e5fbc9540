mod OutputLemmas
mod PieceLemmas
mod EditLemmas
mod StudyLemmas
mod BlockLemmas
mod SideLemmas
