use Rattle.pb_session.proofs.KeptLawLemmas.{few_kept, kept_text, one_kept, some_kept}
use Rattle.pb_session.proofs.laws.kept_law.Goals as goal

pub returns-clause-one : goal.returns-clause-one
returns-clause-one c = one_kept c.one_study_law.ensures c.graphs_law.ensures c.accepted_law.ensures

pub returns-clause-some : goal.returns-clause-some
returns-clause-some c = some_kept c.some_study_law.ensures c.graphs_law.ensures c.accepted_law.ensures

pub returns-clause-few : goal.returns-clause-few
returns-clause-few c = few_kept

pub returns-clause-texts : goal.returns-clause-texts
returns-clause-texts c = kept_text c.one_text_law.ensures.of_a_record
