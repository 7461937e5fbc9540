mod FindingLemmas
mod NextLemmas
pub mod AuditLaws
