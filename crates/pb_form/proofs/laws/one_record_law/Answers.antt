use Rattle.pb_form.proofs.OneRecordLemmas.{one_record}
use Rattle.pb_form.proofs.laws.one_record_law.Goals as goal

pub returns : goal.returns
returns c = one_record c.number_text_law.ensures c.date_text_law.ensures
