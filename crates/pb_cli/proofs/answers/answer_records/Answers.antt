use Rattle.std.proofs.Common.{◌≡◌}
use Rattle.pb_session.specs.Session.{new_session}
use Rattle.pb_cli.proofs.answers.answer_records.Goals as goal

-- what holds from the new session's state on holds from that of a session that has stored nothing
pub returns : goal.returns
returns g c =
    let new = c.new-session.ensures in
    let same : c.new-session.result.state ≡ new_session c.args.options c.args.form = λ i. record { options = new.options i; form = new.form i; rows = new.rows i } in
    let answered = c.answer_in.ensures in
    record {
      refused = rw same at answered.refused;
      whole = rw same at answered.whole;
      cut = rw same at answered.cut;
      some = rw same at answered.some;
      cause = answered.cause;
      no_fault = answered.no_fault;
      memory_no_fault = answered.memory_no_fault;
      idle = answered.idle;
      faults_stay = answered.faults_stay;
      stops = answered.stops;
    }
