use Rattle.std.specs.Prelude.{None, Some}
use Rattle.std.proofs.Common.{◌∙◌, ap, sym}
use Rattle.pb_kinds.specs.Requests.{asked_in, request_in}
use Rattle.pb_kinds.proofs.VersionLemmas.{asked_in_version}
use Rattle.pb_kinds.proofs.reading.read_request.Goals as goal

pub returns-in-None-clause-value : goal.returns-in-None-clause-value
unfolding request_in
returns-in-None-clause-value c = rw c.in-None.is (c.read_first.ensures.value ∙ ap (asked_in None) c.filled-fields.ensures)

pub returns-in-Some-clause-value : goal.returns-in-Some-clause-value
unfolding request_in
returns-in-Some-clause-value c = rw c.in-Some.is (c.read_fields.ensures.value ∙ sym (asked_in_version c.in-Some.version c.filled-fields.result) ∙ ap (asked_in (Some c.in-Some.version)) c.filled-fields.ensures)
