use Rattle.pb_facts.proofs.ShareLemmas.{add_up}
use Rattle.pb_facts.proofs.laws.shares_law.Goals as goal

pub returns : goal.returns
returns c = add_up
