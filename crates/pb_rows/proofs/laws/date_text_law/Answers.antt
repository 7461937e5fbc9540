use Rattle.pb_rows.proofs.TextLaws.{date_texts}
use Rattle.pb_rows.proofs.laws.date_text_law.Goals as goal

pub returns : goal.returns
returns c = date_texts
