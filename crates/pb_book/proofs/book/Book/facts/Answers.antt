use Rattle.std.proofs.Common.{subst, List}
use Rattle.pb_facts.specs.Facts.{NoRepeats}
use Rattle.pb_kinds.specs.declared.rows.StoredRow.{StoredRow}
use Rattle.pb_book.specs.Accepted.{AreInTables}
use Rattle.pb_book.specs.Rows.{declared_of, facts_of}
use Rattle.pb_book.proofs.ConsistentLemmas.{consistent}
use Rattle.pb_book.proofs.PlainLemmas.{well}
use Rattle.pb_book.proofs.book.Book.facts.Goals as goal

pub returns-clause-no_repeats : goal.returns-clause-no_repeats
returns-clause-no_repeats c = subst (λ (rows : List StoredRow). NoRepeats (facts_of rows)) c.self.view_is (well _ c.self.invariant.accepted).apart

pub returns-clause-in_tables : goal.returns-clause-in_tables
returns-clause-in_tables c =
    subst (λ (rows : List StoredRow). AreInTables (declared_of rows) (facts_of rows)) c.self.view_is (consistent _ c.self.invariant.accepted).in_tables
