use Rattle.pb_session.proofs.SomeTextLemmas.{AreKnown, have_windows, some_session_text, some_text}
use Rattle.pb_session.proofs.laws.some_text_law.Goals as goal

known : goal.After-accepted_law → AreKnown
known c = record {
  classifications = c.some_classification_law.ensures;
  advices = c.some_advice_law.ensures;
  cheapest = c.cheapest_law.ensures;
  costs = c.meter_costs_law.ensures;
  graphs = c.graphs_law.ensures;
  accepted = c.accepted_law.ensures;
  balances = λ rows accepted. record {
    studies = c.some_study_law.ensures;
    certified = c.certified_law.ensures;
    least = c.least_throughout_law.ensures;
    tested = c.tested_law.ensures;
    formed = c.formed_law.ensures;
    graph = c.component_form_law.ensures;
    critical = c.criticals_law.ensures rows accepted;
    grades = λ component period stream. c.grades_law.ensures rows component period stream accepted;
  };
  windows = have_windows c.book_windows_law.ensures c.window_graphs_law.ensures;
}

pub returns-clause-of_a_record : goal.returns-clause-of_a_record
returns-clause-of_a_record c = some_text (known c)

pub returns-clause-of_a_session : goal.returns-clause-of_a_session
returns-clause-of_a_session c = some_session_text (known c)
