use Rattle.pb_strap.proofs.VolumeLemmas.{higher_holds_no_less, table_grows, volumes_kept}
use Rattle.pb_strap.proofs.laws.tables_law.Goals as goal

pub returns-clause-grows : goal.returns-clause-grows
returns-clause-grows c = table_grows

pub returns-clause-longer : goal.returns-clause-longer
returns-clause-longer c = volumes_kept

pub returns-clause-higher : goal.returns-clause-higher
returns-clause-higher c = higher_holds_no_less
