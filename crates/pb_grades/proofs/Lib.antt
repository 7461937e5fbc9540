mod CarriedLemmas
mod ComponentLemmas
mod ErrorLemmas
mod FormLemmas
mod MeaningLemmas
