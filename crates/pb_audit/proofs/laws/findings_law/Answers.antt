use Rattle.pb_audit.proofs.AuditLaws.{fewer_behind, nothing_left, one_found, some_found}
use Rattle.pb_audit.proofs.laws.findings_law.Goals as goal

pub returns-clause-some : goal.returns-clause-some
returns-clause-some c = some_found

pub returns-clause-one : goal.returns-clause-one
returns-clause-one c = one_found

pub returns-clause-fewer : goal.returns-clause-fewer
returns-clause-fewer c = fewer_behind

pub returns-clause-nothing : goal.returns-clause-nothing
returns-clause-nothing c = nothing_left
