-- What crates above may cite of what is found in records: the laws.
use Rattle.std.proofs.Common.{refl}
use Rattle.pb_check.proofs.CheckLaws.{not_both, one_fault, some_verdict, sound}
use Rattle.pb_readback.proofs.ReadbackLaws.{formed_holds, next_holds}
use Rattle.pb_audit.specs.Laws.{CertifiedFindingsLaw, NothingLaw, OneFindingsLaw, PassedLaw, SomeFindingsLaw}
use Rattle.pb_audit.proofs.FindingLemmas.{certified_findings, one_findings, passed_findings, some_findings}
pub use Rattle.pb_audit.proofs.FindingLemmas.{fewer_behind}

pub some_found : SomeFindingsLaw
some_found = some_findings next_holds formed_holds sound some_verdict

pub one_found : OneFindingsLaw
one_found = one_findings (record { next = next_holds; formed = formed_holds; apart = not_both; only = one_fault })

pub nothing_left : NothingLaw
nothing_left at = refl

pub certified_found : CertifiedFindingsLaw
certified_found = certified_findings

pub passed_found : PassedLaw
passed_found = passed_findings formed_holds sound
