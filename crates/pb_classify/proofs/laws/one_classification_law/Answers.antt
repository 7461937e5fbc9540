use Rattle.pb_classify.proofs.UniqueLemmas.{one_classification}
use Rattle.pb_classify.proofs.laws.one_classification_law.Goals as goal

pub returns : goal.returns
returns c = one_classification
