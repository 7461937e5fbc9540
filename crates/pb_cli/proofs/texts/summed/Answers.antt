use Rattle.std.proofs.Common.{◌≡◌, ◌≢◌, ℕ, Result, Ok, Err, slice_get, subst}
use Rattle.pb_study.specs.declared.results.Stage.{Stage}
use Rattle.pb_book.specs.Rows.{periods_of}
use Rattle.pb_period.specs.declared.graph.Assembly.{Assembly}
use Rattle.pb_period.specs.declared.graph.Assembly.TheVariants.{NoMemory, Over}
use Rattle.pb_session.specs.FirstStage.{Begins}
use Rattle.pb_cli.proofs.SumLemmas.{stage_sums, stream_sums, told_there}
use Rattle.pb_cli.proofs.texts.summed.Goals as goal

ok_sure : (stage : Stage) (r : Result Stage Assembly) → r ≡ Ok stage → r ≢ Err NoMemory
ok_sure stage r is = λ other. cc (is, other)

is_over : (j : ℕ) (why : Assembly) (r : Result Stage Assembly) → r ≡ Err why → why ≡ Over j → r ≡ Err (Over j)
is_over j why r is why_is = cc (is, why_is)

over_sure : (j : ℕ) (r : Result Stage Assembly) → r ≡ Err (Over j) → r ≢ Err NoMemory
over_sure j r is = λ other. cc (is, other)

pub returns-in-Ok : goal.returns-in-Ok
returns-in-Ok c =
    let state = c.args.session.now.state in
    let stage = c.in-Ok.stage in
    let found = slice_get (periods_of state.rows) 0 in
    let begins = subst (Begins state found) c.in-Ok.is (c.first_stage.ensures.answer (ok_sure stage c.first_stage.result c.in-Ok.is)) in
    stage_sums c.args.number c.args.streams c.args.rows state found stage c.stage_text.result begins c.stage_text.ensures

pub stream_text-requires-clause-stream : goal.stream_text-requires-clause-stream
stream_text-requires-clause-stream c =
    let state = c.args.session.now.state in
    let over = is_over c.in-Err-Over.j c.in-Err-Over.field-0 c.first_stage.result c.in-Err-Over.is c.in-Err-Over.field-0-is in
    rw c.book.ensures (told_there state (slice_get (periods_of state.rows) 0) c.in-Err-Over.j c.first_stage.result over c.first_stage.ensures.over)

pub returns-in-Err-Over : goal.returns-in-Err-Over
returns-in-Err-Over c =
    let state = c.args.session.now.state in
    let j = c.in-Err-Over.j in
    let found = slice_get (periods_of state.rows) 0 in
    let over = is_over j c.in-Err-Over.field-0 c.first_stage.result c.in-Err-Over.is c.in-Err-Over.field-0-is in
    let begins = subst (Begins state found) over (c.first_stage.ensures.answer (over_sure j c.first_stage.result over)) in
    stream_sums c.args.number c.args.streams c.args.rows state j c.book.result.now c.stream_text.result c.book.ensures begins c.stream_text.ensures
