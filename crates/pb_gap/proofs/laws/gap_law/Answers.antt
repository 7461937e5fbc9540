use Rattle.pb_gap.proofs.Gaps.{gaps}
use Rattle.pb_gap.proofs.Enclosure.{gap_excess}
use Rattle.pb_gap.proofs.laws.gap_law.Goals as goal

pub returns : goal.returns
returns c = record { numbers = gaps; excess = gap_excess }
