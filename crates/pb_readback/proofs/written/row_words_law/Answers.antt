use Rattle.pb_readback.proofs.WrittenWordLemmas.{all_words}
use Rattle.pb_readback.proofs.written.row_words_law.Goals as goal

pub returns : goal.returns
returns c = all_words c.output_word_law.ensures
