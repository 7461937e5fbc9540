use Rattle.pb_laws.proofs.WindowPartLemmas.{contents}
use Rattle.pb_laws.proofs.windows.contents_law.Goals as goal

pub returns : goal.returns
returns c = contents
