use Rattle.pb_audit.proofs.AuditLaws.{passed_found}
use Rattle.pb_audit.proofs.laws.passed_law.Goals as goal

pub returns : goal.returns
returns c = passed_found
