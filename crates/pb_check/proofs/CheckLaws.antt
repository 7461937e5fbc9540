-- What crates above may cite of a check: each stage has one verdict, and a stage that passes is certified.
use Rattle.pb_gap.proofs.GapLaws.{gaps}
use Rattle.pb_stage.proofs.NodalLaws.{one_nodal_tests, some_nodal_tests}
use Rattle.pb_stage.proofs.StageLaws.{shown}
use Rattle.pb_check.specs.Laws.{SoundLaw}
use Rattle.pb_check.specs.VerdictLaws.{NotBothLaw, OneFaultLaw, SomeVerdictLaw}
use Rattle.pb_check.proofs.OneLemmas.{not_both_by, one_fault_by}
use Rattle.pb_check.proofs.SoundLemmas.{sound_by}
use Rattle.pb_check.proofs.VerdictLemmas.{some_verdict_by}

pub some_verdict : SomeVerdictLaw
some_verdict = some_verdict_by some_nodal_tests

pub not_both : NotBothLaw
not_both = not_both_by one_nodal_tests

pub one_fault : OneFaultLaw
one_fault = one_fault_by one_nodal_tests

pub sound : SoundLaw
sound = sound_by gaps shown
