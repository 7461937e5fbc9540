use Rattle.std.proofs.Common.{sym}
use Rattle.pb_form.proofs.SaidLemmas.{count_said}
use Rattle.pb_form.proofs.value.Values.len.Goals as goal

pub returns : goal.returns
returns c = rw (← c.self.view_is) (sym (count_said c.self.inside.columns.now c.self.inside.fields c.self.invariant))
