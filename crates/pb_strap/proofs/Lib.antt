mod TableLemmas
pub mod VolumeLemmas
