use Rattle.pb_audit.proofs.AuditLaws.{certified_found}
use Rattle.pb_audit.proofs.laws.certified_law.Goals as goal

pub returns : goal.returns
returns c = certified_found
