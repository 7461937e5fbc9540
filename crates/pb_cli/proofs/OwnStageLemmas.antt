-- Each stage of a study passes.
use Rattle.std.proofs.Common.{get_or}
use Rattle.pb_elim.specs.Laws.{CertifiedLaw, SolutionLaw}
use Rattle.pb_check.specs.Laws.{SolvedLaw}
use Rattle.pb_cli.specs.Laws.{OwnLaw}

pub own_by : CertifiedLaw → SolutionLaw → SolvedLaw → OwnLaw
own_by certified solved passes graph options critical study limits is = λ k d lt.
    passes (get_or study.stages k d) options.gap options.sweeps (certified graph options critical study limits is k d lt).shown (solved graph options critical study is k d lt)
