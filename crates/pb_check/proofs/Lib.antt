mod AmongLemmas
mod BoxLemmas
mod ClassLemmas
mod DecideLemmas
mod FirstLemmas
mod GroupLemmas
mod NetLemmas
mod OneLemmas
mod OtherLemmas
mod OwnLemmas
mod PlaceLemmas
mod RowLemmas
mod ShownLemmas
mod SomeLemmas
mod SoundLemmas
mod StateLemmas
mod VerdictLemmas
pub mod CheckLaws
