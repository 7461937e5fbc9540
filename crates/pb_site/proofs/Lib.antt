mod DaysLemmas
mod FaultLemmas
mod KeptLemmas
mod LookUpLemmas
mod PartLemmas
pub mod SiteLaws
