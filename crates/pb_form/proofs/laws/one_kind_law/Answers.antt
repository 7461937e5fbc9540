use Rattle.pb_form.proofs.KindLemmas.{one_kind}
use Rattle.pb_form.proofs.laws.one_kind_law.Goals as goal

pub returns : goal.returns
returns c = one_kind
