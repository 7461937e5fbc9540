mod NameLemmas
mod RowLemmas
mod JoinLemmas
mod ReadLemmas
mod NumberLemmas
mod TextLemmas
mod DateTextLemmas
mod RoundTripLemmas
pub mod TextLaws
pub mod RowLaws
