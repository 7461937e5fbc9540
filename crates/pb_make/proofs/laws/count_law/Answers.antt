use Rattle.pb_make.proofs.SessionLemmas.{row_count}
use Rattle.pb_make.proofs.laws.count_law.Goals as goal

pub returns : goal.returns
returns c = row_count
