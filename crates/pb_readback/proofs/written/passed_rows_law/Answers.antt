use Rattle.pb_readback.proofs.WrittenOtherLemmas.{others_passed}
use Rattle.pb_readback.proofs.written.passed_rows_law.Goals as goal

pub returns : goal.returns
returns c = others_passed
