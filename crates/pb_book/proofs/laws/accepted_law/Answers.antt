use Rattle.pb_book.proofs.AcceptedLemmas.{accepted_after, none_accepted}
use Rattle.pb_book.proofs.ConsistentLemmas.{consistent}
use Rattle.pb_book.proofs.laws.accepted_law.Goals as goal

pub returns : goal.returns
returns c = record { begin = none_accepted; go_on = accepted_after c.stored_law.ensures; consistent = consistent }
