use Rattle.pb_kinds.proofs.ReadingLemmas.{reading_asks, reading_in_range}
use Rattle.pb_kinds.proofs.reading.asked_of.Goals as goal

pub returns-in-Some-clause-value : goal.returns-in-Some-clause-value
returns-in-Some-clause-value c = rw (c.in-Reading.is, c.books.ensures) (reading_asks c.args.fields.now c.in-Some.reading c.in-Some.ensures)

pub returns-in-Some-clause-in_range : goal.returns-in-Some-clause-in_range
returns-in-Some-clause-in_range c = rw c.books.ensures (reading_in_range c.args.fields.now c.in-Some.reading c.in-Some.ensures)
