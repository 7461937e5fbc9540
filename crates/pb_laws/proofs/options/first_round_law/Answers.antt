use Rattle.pb_laws.proofs.OptionsLemmas.{first_round}
use Rattle.pb_laws.proofs.options.first_round_law.Goals as goal

pub returns : goal.returns
returns c = first_round c.one_study_law.ensures
