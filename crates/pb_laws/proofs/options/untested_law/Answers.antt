use Rattle.pb_laws.proofs.OptionsLemmas.{other_rows_same, untested_stages}
use Rattle.pb_laws.proofs.options.untested_law.Goals as goal

pub returns : goal.returns
returns c = record { stages = untested_stages c.one_study_law.ensures; rows = other_rows_same c.one_study_law.ensures }
