-- The first stage of the study of the period at a place.
use Rattle.std.proofs.Common.{◌≡◌, ◌≢◌, ◌∙◌, ◌<◌, ℕ, List, length, Option, IfErr, IfOk, IfSome, Result, Ok, Err, get_or, slice_get, ap, sym, subst}
use Rattle.std.proofs.lemmas.Option.{slice_get-get_or}
use Rattle.pb_study.specs.declared.results.Stage.{Stage}
use Rattle.pb_graph.specs.ProcessGraph.{ProcessGraph}
use Rattle.pb_periods.specs.declared.period.Period.{Period}
use Rattle.pb_kinds.specs.declared.rows.StoredRow.{StoredRow}
use Rattle.pb_book.specs.Rows.{periods_of}
use Rattle.pb_period.specs.Days.{days_of}
use Rattle.pb_period.specs.declared.graph.Assembly.{Assembly}
use Rattle.pb_period.specs.declared.graph.Assembly.TheVariants.{NoMemory}
use Rattle.pb_period.specs.PeriodGraph.{NamesAStream, assembly_of}
use Rattle.pb_session.specs.FirstStage.{Begins, BeginsBy, IsFirstStage, TellsAStream}
use Rattle.pb_session.specs.Session.{SessionState}
use Rattle.pb_session.proofs.ReportLemmas.{at_found}
use Rattle.pb_session.proofs.RowLemmas.{some_period}

-- a graph has its first stage, unless memory ran out
pub begins_by : (state : SessionState) (graph : ProcessGraph) (answer : Result Stage Assembly) → IfOk answer (IsFirstStage state graph) → IfErr answer (λ e. e ≡ NoMemory)
    → answer ≢ Err NoMemory → BeginsBy state (Ok graph) answer
begins_by state graph (Ok stage) first none sure = first
begins_by state graph (Err e) first none sure = absurd (sure (ap (λ (why : Assembly). Err why) none))

-- the same for the period at a place
pub begins_at : (state : SessionState) (i : ℕ) (assembly found : Result ProcessGraph Assembly) (answer : Result Stage Assembly) → i < length (periods_of state.rows) → found ≡ assembly
    → IfSome (slice_get (periods_of state.rows) i) (λ period. found ≡ assembly_of state.rows (days_of period)) → BeginsBy state assembly answer
    → Begins state (slice_get (periods_of state.rows) i) answer
begins_at state i assembly found answer there found_is holds by =
    let period = get_or (periods_of state.rows) i some_period in
    let at = slice_get-get_or (periods_of state.rows) i some_period there in
    let is = at_found (slice_get (periods_of state.rows) i) period (λ (p : Period). found ≡ assembly_of state.rows (days_of p)) at holds in
    subst (λ (o : Option Period). Begins state o answer) (sym at) (subst (λ (a : Result ProcessGraph Assembly). BeginsBy state a answer) (sym found_is ∙ is) by)

-- no stream is reported, or it is a stream of the graph
tells : (rows : List StoredRow) (period : Period) (answer : Result Stage Assembly) → IfErr answer (λ e. e ≡ NoMemory) → IfErr answer (NamesAStream rows (days_of period))
tells rows period (Ok stage) none = tt
tells rows period (Err e) none = subst (NamesAStream rows (days_of period)) (sym none) tt

pub tells_none : (state : SessionState) (i : ℕ) (answer : Result Stage Assembly) → i < length (periods_of state.rows) → IfErr answer (λ e. e ≡ NoMemory)
    → TellsAStream state (slice_get (periods_of state.rows) i) answer
tells_none state i answer there none =
    let period = get_or (periods_of state.rows) i some_period in
    subst (λ (o : Option Period). TellsAStream state o answer) (sym (slice_get-get_or (periods_of state.rows) i some_period there)) (tells state.rows period answer none)

pub tells_why : (state : SessionState) (i : ℕ) (why : Assembly) (found : Result ProcessGraph Assembly) → i < length (periods_of state.rows) → found ≡ Err why
    → IfSome (slice_get (periods_of state.rows) i) (λ period. IfErr found (NamesAStream state.rows (days_of period)))
    → TellsAStream state (slice_get (periods_of state.rows) i) (Err why)
tells_why state i why found there is holds =
    let period = get_or (periods_of state.rows) i some_period in
    let at = slice_get-get_or (periods_of state.rows) i some_period there in
    let named = at_found (slice_get (periods_of state.rows) i) period (λ (p : Period). IfErr found (NamesAStream state.rows (days_of p))) at holds in
    subst (λ (o : Option Period). TellsAStream state o (Err why)) (sym at) (subst (λ (r : Result ProcessGraph Assembly). IfErr r (NamesAStream state.rows (days_of period))) is named)
