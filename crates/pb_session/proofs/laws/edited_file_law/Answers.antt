use Rattle.pb_session.proofs.EditedLemmas.{edited_stands}
use Rattle.pb_session.proofs.laws.edited_file_law.Goals as goal

pub returns : goal.returns
returns c = edited_stands c.plain_law.ensures c.plain_graphs_law.ensures
