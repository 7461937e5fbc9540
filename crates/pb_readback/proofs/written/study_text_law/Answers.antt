use Rattle.pb_readback.proofs.WrittenTextLemmas.{study_text_back}
use Rattle.pb_readback.proofs.written.study_text_law.Goals as goal

pub returns : goal.returns
returns c = study_text_back c.row_text_law.ensures c.row_words_law.ensures c.study_rows_law.ensures
