use Rattle.pb_session.proofs.TextLemmas.{record_text, session_text}
use Rattle.pb_session.proofs.laws.one_text_law.Goals as goal

pub returns-clause-of_a_record : goal.returns-clause-of_a_record
returns-clause-of_a_record c = record_text c.one_classification_law.ensures c.one_advice_law.ensures c.one_study_law.ensures

pub returns-clause-of_a_session : goal.returns-clause-of_a_session
returns-clause-of_a_session c = session_text c.one_classification_law.ensures c.one_advice_law.ensures c.one_study_law.ensures
