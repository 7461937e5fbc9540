use Rattle.pb_readback.proofs.WrittenStudyLemmas.{study_back}
use Rattle.pb_readback.proofs.written.study_rows_law.Goals as goal

pub returns : goal.returns
returns c =
    let tables = c.word_tables_law.ensures in
    study_back (record {
      texts = c.text_law.ensures;
      numbers = c.number_text_law.ensures;
      classes = tables.classes;
      shapes = tables.shapes;
      states = tables.states;
      verdicts = tables.verdicts;
    })
