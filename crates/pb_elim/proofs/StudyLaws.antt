-- What crates above may cite of stages and studies: the laws.
use Rattle.pb_dual.proofs.SweepLaws.{ascent_law}
use Rattle.pb_stage.proofs.StageLaws.{shown}
use Rattle.pb_stage.proofs.TestLaws.{measure_accept, measure_reject}
use Rattle.pb_elim.specs.Laws.{CertifiedLaw, DecidedLaw}
use Rattle.pb_elim.proofs.DecidedLemmas.{decided_by}
use Rattle.pb_elim.proofs.SolutionLemmas.{certified_by}
pub use Rattle.pb_elim.proofs.TestLemmas.{tested}
pub use Rattle.pb_elim.proofs.ThroughoutLemmas.{least_throughout}

pub certified : CertifiedLaw
certified = certified_by ascent_law shown

pub decided : DecidedLaw
decided = decided_by measure_reject measure_accept
