mod ListLemmas
mod SaidLemmas
mod ReadingLemmas
mod TellingLemmas
mod TableLemmas
mod DayLemmas
mod WritingLemmas
mod FieldLemmas
mod PartsLemmas
mod FittingLemmas
mod KindLemmas
mod OneRecordLemmas
mod JsonLemmas
mod TextLemmas
mod DayTextLemmas
mod RowTextLemmas
pub mod FormLaws
