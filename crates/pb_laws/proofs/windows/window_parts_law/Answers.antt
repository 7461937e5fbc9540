use Rattle.pb_laws.proofs.WindowPartLemmas.{window_measures, window_parts}
use Rattle.pb_laws.proofs.windows.window_parts_law.Goals as goal

pub returns-clause-parts : goal.returns-clause-parts
returns-clause-parts c = window_parts

pub returns-clause-measured : goal.returns-clause-measured
returns-clause-measured c = window_measures
