pub mod NamedLemmas
mod WindowedLemmas
