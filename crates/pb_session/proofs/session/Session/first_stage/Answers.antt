use Rattle.std.proofs.Common.{◌≡◌, ◌≢◌, ℕ, List, IfErr, IfSome, Result, Ok, Err, slice_get, ap, refl, subst}
use Rattle.pb_study.specs.declared.results.Stage.{Stage}
use Rattle.pb_graph.specs.ProcessGraph.{ProcessGraph}
use Rattle.pb_kinds.specs.declared.rows.StoredRow.{StoredRow}
use Rattle.pb_book.specs.Rows.{periods_of}
use Rattle.pb_period.specs.Days.{days_of}
use Rattle.pb_period.specs.declared.graph.Assembly.{Assembly}
use Rattle.pb_period.specs.declared.graph.Assembly.TheVariants.{NoMemory}
use Rattle.pb_period.specs.PeriodGraph.{NamesAStream, assembly_of}
use Rattle.pb_session.specs.Kept.{Held}
use Rattle.pb_session.specs.Session.{SessionState}
use Rattle.pb_session.proofs.FirstStageLemmas.{begins_at, begins_by, tells_none, tells_why}
use Rattle.pb_session.proofs.session.Session.first_stage.Goals as goal

ok_sure : (graph : ProcessGraph) (r : Result ProcessGraph Assembly) → r ≡ Ok graph → r ≢ Err NoMemory
ok_sure graph r is = λ other. cc (is, other)

err_sure : (why : Assembly) (r : Result ProcessGraph Assembly) → r ≡ Err why → why ≢ NoMemory → r ≢ Err NoMemory
err_sure why r is sure = λ other. sure (cc (is, other))

-- what is known about the book's rows is known about the session's
moved : (rows : List StoredRow) (state : SessionState) (i : ℕ) (r : Result ProcessGraph Assembly) → rows ≡ state.rows
    → IfSome (slice_get (periods_of rows) i) (λ period. r ≡ assembly_of rows (days_of period)) → IfSome (slice_get (periods_of state.rows) i) (λ period. r ≡ assembly_of state.rows (days_of period))
moved rows state i r is holds = subst (λ (rs : List StoredRow). IfSome (slice_get (periods_of rs) i) (λ period. r ≡ assembly_of rs (days_of period))) is holds

pub returns-in-Ok : goal.returns-in-Ok
returns-in-Ok c =
    let state = c.args.self.now.state in
    let graph = c.in-Ok.graph in
    let rows_is : c.self.inside.book ≡ state.rows = ap (λ (h : Held). h.state.rows) c.self.view_is in
    let holds = moved c.self.inside.book state c.args.period c.assemble.result rows_is (c.assemble.ensures.answer (ok_sure graph c.assemble.result c.in-Ok.is)) in
    record {
      answer = λ sure. begins_at state c.args.period (Ok graph) c.assemble.result c.stage_of.result c.requires c.in-Ok.is holds
          (begins_by state graph c.stage_of.result c.stage_of.ensures.stage c.stage_of.ensures.err sure);
      over = tells_none state c.args.period c.stage_of.result c.requires c.stage_of.ensures.err;
    }

pub returns-in-Err : goal.returns-in-Err
returns-in-Err c =
    let state = c.args.self.now.state in
    let why : Assembly = c.in-Err.why in
    let told : Result Stage Assembly = Err why in
    let rows_is : c.self.inside.book ≡ state.rows = ap (λ (h : Held). h.state.rows) c.self.view_is in
    let named = subst (λ (rs : List StoredRow). IfSome (slice_get (periods_of rs) c.args.period) (λ period. IfErr c.assemble.result (NamesAStream rs (days_of period)))) rows_is c.assemble.ensures.over in
    record {
      answer = λ sure.
          let holds = moved c.self.inside.book state c.args.period c.assemble.result rows_is
          (c.assemble.ensures.answer (err_sure why c.assemble.result c.in-Err.is (λ e. sure (ap (λ (w : Assembly). Err w) e)))) in
          begins_at state c.args.period (Err why) c.assemble.result told c.requires c.in-Err.is holds refl;
      over = tells_why state c.args.period why c.assemble.result c.requires c.in-Err.is named;
    }
