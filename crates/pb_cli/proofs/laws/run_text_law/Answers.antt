use Rattle.pb_rows.specs.Records.{records_of}
use Rattle.pb_session.specs.Session.{new_session}
use Rattle.pb_cli.proofs.laws.run_text_law.Goals as goal

pub returns-clause-some : goal.returns-clause-some
returns-clause-some c = λ options form input limits.
    c.some_text_law.ensures.of_a_session (new_session options form) 1 (records_of input) limits c.accepted_law.ensures.begin

pub returns-clause-one : goal.returns-clause-one
returns-clause-one c = λ options form input one other a b. c.one_text_law.ensures.of_a_session (new_session options form) 1 (records_of input) one other a b
