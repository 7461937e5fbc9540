use Rattle.pb_laws.proofs.PlainTextLemmas.{some_plain_text}
use Rattle.pb_laws.proofs.plain.some_plain_text_law.Goals as goal

pub returns : goal.returns
returns c =
    some_plain_text (record {
      plain = c.plain_law.ensures;
      text = c.text_law.ensures;
      kind = c.one_kind_law.ensures;
      asking = c.asking_law.ensures;
      back = c.written_rows_law.ensures;
    })
