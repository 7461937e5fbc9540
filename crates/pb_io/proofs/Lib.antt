pub mod PieceLemmas
mod TakingLemmas
