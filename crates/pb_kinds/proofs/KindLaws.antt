-- What crates above may cite of what records ask for: its laws.
use Rattle.pb_form.proofs.FormLaws.{one_kind}
use Rattle.pb_kinds.specs.Laws.{AskingLaw}
use Rattle.pb_kinds.proofs.RequestLemmas.{asking}

pub asking_law : AskingLaw
asking_law = asking one_kind
