use Rattle.pb_classify.proofs.AlikeLemmas.{alike_classes}
use Rattle.pb_classify.proofs.laws.alike_law.Goals as goal

pub returns : goal.returns
returns c = alike_classes
