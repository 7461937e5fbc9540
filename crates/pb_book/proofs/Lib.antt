mod AcceptedLemmas
mod AnswerLemmas
mod ChangeLemmas
mod ConsistentLemmas
mod EditLemmas
mod FactLemmas
mod KeptLemmas
mod LiveLemmas
mod NamedLemmas
mod OriginalLemmas
mod CostLemmas
mod PlainLemmas
mod RecordLemmas
mod TakenOutLemmas
mod VersionOneLemmas
mod WindowPlantLemmas
pub mod BookLaws
