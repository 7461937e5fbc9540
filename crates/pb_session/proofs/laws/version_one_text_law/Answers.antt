use Rattle.pb_session.proofs.VersionOneLemmas.{first_plant, first_refusals, first_session_text, first_text, first_windows}
use Rattle.pb_session.proofs.laws.version_one_text_law.Goals as goal

pub returns-clause-of_a_record : goal.returns-clause-of_a_record
returns-clause-of_a_record c = first_text c.version_one_law.ensures

pub returns-clause-of_a_session : goal.returns-clause-of_a_session
returns-clause-of_a_session c = first_session_text c.version_one_law.ensures

pub returns-clause-plant : goal.returns-clause-plant
returns-clause-plant c = first_plant

pub returns-clause-refusals : goal.returns-clause-refusals
returns-clause-refusals c = first_refusals

pub returns-clause-windows : goal.returns-clause-windows
returns-clause-windows c = first_windows
