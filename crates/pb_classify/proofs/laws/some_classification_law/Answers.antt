use Rattle.pb_classify.proofs.SomeClassificationLemmas.{some_classification_law}
use Rattle.pb_classify.proofs.laws.some_classification_law.Goals as goal

pub returns : goal.returns
returns c = some_classification_law
