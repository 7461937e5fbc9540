use Rattle.pb_rows.proofs.TextLaws.{number_texts}
use Rattle.pb_rows.proofs.laws.number_text_law.Goals as goal

pub returns : goal.returns
returns c = number_texts
