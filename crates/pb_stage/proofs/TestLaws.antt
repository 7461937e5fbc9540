-- What crates above may cite of tests: the laws.
use Rattle.pb_gap.proofs.GapLaws.{have_weights, high, low}
use Rattle.pb_stage.specs.Laws.{DropAcceptLaw, DropRejectLaw, EndsLaw, GlobalAcceptLaw, GlobalRejectLaw, MeasureAcceptLaw, MeasureRejectLaw}
use Rattle.pb_stage.proofs.DecidedLemmas.{drop_accept_by, drop_reject_by, global_accept_by, global_reject_by}
use Rattle.pb_stage.proofs.DropLemmas.{ends_by, measure_accept_by, measure_reject_by}

-- ---- the global test
pub global_reject : GlobalRejectLaw
global_reject = global_reject_by have_weights

pub global_accept : GlobalAcceptLaw
global_accept = global_accept_by have_weights

-- ---- the drop between two statistics
pub drop_reject : DropRejectLaw
drop_reject = drop_reject_by have_weights

pub drop_accept : DropAcceptLaw
drop_accept = drop_accept_by have_weights

-- ---- the test of a measurement
pub ends : EndsLaw
ends = ends_by low high

pub measure_reject : MeasureRejectLaw
measure_reject = measure_reject_by ends drop_reject

pub measure_accept : MeasureAcceptLaw
measure_accept = measure_accept_by ends drop_accept
