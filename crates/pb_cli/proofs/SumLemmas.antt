-- A text that sums up a study.
use Rattle.std.proofs.Common.{◌≡◌, ◌≢◌, ◌∙◌, ◌<◌, ℕ, zero, suc, List, [], ◌∷◌, length, take, Option, Some, None, Result, Ok, Err, IfOk, Vec, Global, slice_get, ap, refl, sym, subst, arith}
use Rattle.std.specs.Prelude.{IfErr, IfSome, IsSomeAnd}
use Rattle.std.specs.declared.alloc.AllocError.{AllocError}
use Rattle.pb_study.specs.declared.results.Critical.{Critical}
use Rattle.pb_study.specs.declared.results.Options.{Options}
use Rattle.pb_study.specs.declared.results.Stage.{Stage}
use Rattle.pb_study.specs.declared.results.Study.{Study}
use Rattle.pb_graph.specs.ProcessGraph.{ProcessGraph, IsProcessGraph}
use Rattle.pb_elim.specs.Laws.{OneStudyLaw, SomeStudyLaw}
use Rattle.pb_study.specs.Options.{AreOptions}
use Rattle.pb_elim.specs.Stage.{IsStageOf}
use Rattle.pb_elim.specs.Study.{IsStudyOf, without_taken}
use Rattle.pb_periods.specs.declared.period.Period.{Period}
use Rattle.pb_kinds.specs.declared.rows.StoredRow.{StoredRow}
use Rattle.pb_book.specs.Rows.{periods_of}
use Rattle.pb_period.specs.declared.days.Days.{Days}
use Rattle.pb_period.specs.Days.{days_of}
use Rattle.pb_period.specs.declared.graph.Assembly.{Assembly}
use Rattle.pb_period.specs.declared.graph.Assembly.TheVariants.{NoMemory, Over}
use Rattle.pb_period.specs.Laws.{AreGraphNames}
use Rattle.pb_period.specs.PeriodGraph.{NamesAStream, assembly_of, period_graph, period_names, unless_over}
use Rattle.pb_report.specs.declared.form.Form.TheVariants.{Csv}
use Rattle.pb_report.specs.Form.{text_in}
use Rattle.pb_report.specs.Names.{name_at}
use Rattle.pb_report.specs.Over.{over_row}
use Rattle.pb_report.specs.Row.{OutputRow}
use Rattle.pb_report.specs.Summary.{summary_row}
use Rattle.pb_make.specs.Rows.{stored_rows}
use Rattle.pb_session.specs.Criticals.{critical_of}
use Rattle.pb_session.specs.FirstStage.{Begins, BeginsBy, IsFirstStage, TellsAStream}
use Rattle.pb_session.specs.Session.{SessionState, new_session, state_after_all}
use Rattle.pb_cli.specs.Summary.{SumsUpBy, made_options}

-- the row that names a stream of a period that is over the limits
abbrev pub stream_row : List StoredRow → Period → ℕ → OutputRow
stream_row rows period j = over_row period.name (name_at (period_names rows (days_of period)).streams j)

-- the study of the period at a place
abbrev pub SumsUp : ℕ → ℕ → ℕ → SessionState → Option Period → List ℕ → Type 0
SumsUp number streams rows state found text =
    IsSomeAnd found (λ period. SumsUpBy number streams rows state period (assembly_of state.rows (days_of period)) text)

-- the session made from a number, when it is asked for its report
abbrev pub made_state : ℕ → ℕ → ℕ → ℕ → SessionState
made_state number streams gap sweeps = state_after_all (new_session (made_options gap sweeps) Csv) 1 (stored_rows number streams)

-- ---- by the first stage, or by a stream over the limits

pub sums_stage : (number streams rows : ℕ) (state : SessionState) (found : Option Period) (stage : Stage) (text : List ℕ) → Begins state found (Ok stage)
    → text ≡ text_in Csv (summary_row number streams rows stage ∷ []) → SumsUp number streams rows state found text
sums_stage number streams rows state (Some period) stage text begins is = by (assembly_of state.rows (days_of period)) begins
  where
    by : (a : Result ProcessGraph Assembly) → BeginsBy state a (Ok stage) → SumsUpBy number streams rows state period a text
    by (Ok graph) first = (stage, first, is)
    by (Err why) first = absurd first
sums_stage number streams rows state None stage text begins is = absurd begins

pub sums_over : (number streams rows : ℕ) (state : SessionState) (found : Option Period) (j : ℕ) (text : List ℕ) → Begins state found (Err (Over j))
    → IfSome found (λ period. text ≡ text_in Csv (stream_row state.rows period j ∷ [])) → SumsUp number streams rows state found text
sums_over number streams rows state (Some period) j text begins is = by (assembly_of state.rows (days_of period)) begins
  where
    by : (a : Result ProcessGraph Assembly) → BeginsBy state a (Err (Over j)) → SumsUpBy number streams rows state period a text
    by (Ok graph) told = absurd told
    by (Err (Over k)) told =
        let same : j ≡ k = cc told in
        is ∙ ap (λ (n : ℕ). text_in Csv (stream_row state.rows period n ∷ [])) same
    by (Err NoMemory) told = cc told
sums_over number streams rows state None j text begins is = absurd begins

pub weaker : {T E : Type 0} (r : Result T E) (P Q : T → Type 0) → ((x : T) → P x → Q x) → IfOk r P → IfOk r Q
weaker (Ok x) P Q more holds = more x holds
weaker (Err e) P Q more holds = tt

-- ---- one

-- a stage without elimination is the whole study
study_of : (graph : ProcessGraph) (options : Options) (critical : Critical) (stage : Stage) → options.eliminate ≡ 0 → IsStageOf graph options critical stage
    → IsStudyOf graph options critical (record { stages = stage ∷ []; taken = []; stop = None })
study_of graph options critical stage none is = record {
  rounds = record {
    each = each;
    between = refl;
    rounds = omega arith;
    suspects = λ i s t at there. cc there;
  };
  stop = λ last at. none;
}
  where
    each : (i : ℕ) (s : Stage) → slice_get (stage ∷ []) i ≡ Some s → IsStageOf (without_taken graph (take i [])) options critical s
    each zero s at = let same : stage ≡ s = cc at in subst (IsStageOf graph options critical) same is
    each (suc i) s at = cc at

one_stage : OneStudyLaw → (state : SessionState) (graph : ProcessGraph) (one other : Stage) → state.options.eliminate ≡ 0 → IsFirstStage state graph one → IsFirstStage state graph other
    → one ≡ other
one_stage law state graph one other none first second =
    let critical = critical_of state.rows in
    let a : Study = record { stages = one ∷ []; taken = []; stop = None } in
    let b : Study = record { stages = other ∷ []; taken = []; stop = None } in
    let same = law graph state.options critical a b first.limits (study_of graph state.options critical one none first.is_stage) (study_of graph state.options critical other none second.is_stage) in
    let stages : one ∷ [] ≡ other ∷ [] = ap (λ (study : Study). study.stages) same in
    cc stages

pub one_sum : OneStudyLaw → (number streams rows : ℕ) (state : SessionState) (found : Option Period) (one other : List ℕ) → state.options.eliminate ≡ 0
    → SumsUp number streams rows state found one → SumsUp number streams rows state found other → one ≡ other
one_sum law number streams rows state (Some period) one other none first second = by (assembly_of state.rows (days_of period)) first second
  where
    by : (a : Result ProcessGraph Assembly) → SumsUpBy number streams rows state period a one → SumsUpBy number streams rows state period a other → one ≡ other
    by (Ok graph) a b =
        a.2 ∙ ap (λ (stage : Stage). text_in Csv (summary_row number streams rows stage ∷ [])) (one_stage law state graph a.0 b.0 none a.1 b.1) ∙ sym b.2
    by (Err (Over j)) a b = a ∙ sym b
    by (Err NoMemory) a b = absurd a
one_sum law number streams rows state None one other none first second = absurd first

-- ---- some

-- a study has a first stage
first_of : (graph : ProcessGraph) (options : Options) (critical : Critical) (study : Study) → IsStudyOf graph options critical study → (stage : Stage) × IsStageOf graph options critical stage
first_of graph options critical study is = by study.stages refl
  where
    by : (stages : List Stage) → study.stages ≡ stages → (stage : Stage) × IsStageOf graph options critical stage
    by [] none = absurd (omega (arith, is.rounds.between, ap (λ (l : List Stage). length l) none))
    by (stage ∷ stages) some = (stage, is.rounds.each 0 stage (ap (λ (l : List Stage). slice_get l 0) some))

pub some_sum : SomeStudyLaw → (number streams rows : ℕ) (state : SessionState) (period : Period) → AreOptions state.options
    → IfOk (assembly_of state.rows (days_of period)) IsProcessGraph → (text : List ℕ) × SumsUp number streams rows state (Some period) text
some_sum law number streams rows state period asked within =
    by (assembly_of state.rows (days_of period)) within (never_memory (period_graph state.rows (days_of period)) _)
  where
    never_memory : (graph : ProcessGraph) (found : Option ℕ) → unless_over graph found ≢ Err NoMemory
    never_memory graph (Some stream) = λ is. cc is
    never_memory graph None = λ is. cc is

    by : (a : Result ProcessGraph Assembly) → IfOk a IsProcessGraph → a ≢ Err NoMemory → (text : List ℕ) × SumsUpBy number streams rows state period a text
    by (Ok graph) limits sure =
        let critical = critical_of state.rows in
        let (study, is) = law graph state.options critical limits asked in
        let (stage, stage_is) = first_of graph state.options critical study is in
        (_, (stage, record { limits = limits; is_stage = stage_is }, refl))
    by (Err (Over j)) limits sure = (_, refl)
    by (Err NoMemory) limits sure = absurd (sure refl)

-- ---- answers that are results

pub stage_sums : (number streams rows : ℕ) (state : SessionState) (found : Option Period) (stage : Stage) (answer : Result (Vec ℕ Global) AllocError) → Begins state found (Ok stage)
    → IfOk answer (λ text. text.items ≡ text_in Csv (summary_row number streams rows stage ∷ [])) → IfOk answer (λ text. SumsUp number streams rows state found text.items)
stage_sums number streams rows state found stage answer begins is =
    weaker answer (λ text. text.items ≡ text_in Csv (summary_row number streams rows stage ∷ [])) (λ text. SumsUp number streams rows state found text.items)
    (λ text same. sums_stage number streams rows state found stage text.items begins same) is

pub stream_sums : (number streams rows : ℕ) (state : SessionState) (j : ℕ) (stored : List StoredRow) (answer : Result (Vec ℕ Global) AllocError) → stored ≡ state.rows
    → Begins state (slice_get (periods_of state.rows) 0) (Err (Over j))
    → IfOk answer (λ text. IfSome (slice_get (periods_of stored) 0) (λ period. text.items ≡ text_in Csv (stream_row stored period j ∷ [])))
    → IfOk answer (λ text. SumsUp number streams rows state (slice_get (periods_of state.rows) 0) text.items)
stream_sums number streams rows state j stored answer same begins is =
    let moved = subst (λ (s : List StoredRow). IfOk answer (λ text. IfSome (slice_get (periods_of s) 0) (λ period. text.items ≡ text_in Csv (stream_row s period j ∷ [])))) same is in
    weaker answer (λ text. IfSome (slice_get (periods_of state.rows) 0) (λ period. text.items ≡ text_in Csv (stream_row state.rows period j ∷ [])))
    (λ text. SumsUp number streams rows state (slice_get (periods_of state.rows) 0) text.items)
    (λ text named. sums_over number streams rows state (slice_get (periods_of state.rows) 0) j text.items begins named) moved

-- a stream that is reported is one of the graph
pub told_there : (state : SessionState) (found : Option Period) (j : ℕ) (answer : Result Stage Assembly) → answer ≡ Err (Over j) → TellsAStream state found answer
    → IfSome found (λ period. j < length (period_graph state.rows (days_of period)).streams)
told_there state (Some period) j answer is tells = subst (λ (r : Result Stage Assembly). IfErr r (NamesAStream state.rows (days_of period))) is tells
told_there state None j answer is tells = absurd tells

-- ---- names

-- what holds of a period that is found
pub at_found : (found : Option Period) (period : Period) (P : Period → Type 0) → found ≡ Some period → IfSome found P → P period
at_found (Some other) period P is holds = let same : other ≡ period = cc is in subst P same holds
at_found None period P is holds = cc is

-- a stream of the graph of a period has a name
pub stream_named : (rows : List StoredRow) (days : Days) (j : ℕ) → AreGraphNames (period_names rows days) (period_graph rows days) → j < length (period_graph rows days).streams
    → j < length (period_names rows days).streams
stream_named rows days j named there = subst (λ (n : ℕ). j < n) (sym named.each_stream) there
