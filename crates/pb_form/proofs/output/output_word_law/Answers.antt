use Rattle.pb_form.proofs.RowTextLemmas.{rows_begin}
use Rattle.pb_form.proofs.output.output_word_law.Goals as goal

pub returns : goal.returns
returns c = rows_begin
