use Rattle.pb_readback.proofs.WrittenTextLemmas.{text_back}
use Rattle.pb_readback.proofs.written.row_text_law.Goals as goal

pub returns : goal.returns
returns c = text_back c.written_rows_law.ensures
