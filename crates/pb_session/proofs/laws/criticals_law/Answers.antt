use Rattle.pb_book.specs.Rows.{declared_of}
use Rattle.pb_session.proofs.CriticalLemmas.{critical_in_range}
use Rattle.pb_session.proofs.laws.criticals_law.Goals as goal

pub returns : goal.returns
returns c = λ rows accepted. critical_in_range (declared_of rows) (c.ranges_law.ensures rows accepted)
