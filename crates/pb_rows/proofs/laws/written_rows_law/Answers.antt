use Rattle.pb_rows.proofs.RoundTripLemmas.{rows_read_back}
use Rattle.pb_rows.proofs.laws.written_rows_law.Goals as goal

pub returns : goal.returns
returns c = rows_read_back
