-- The component graph of a period: how many nodes and streams it has, and the last stage of a study.
use Rattle.std.specs.Prelude.{◌+◌, IfErr, IfOk, IfSome}
use Rattle.std.proofs.Common.{◌≡◌, ◌≢◌, ◌∙◌, ◌<◌, ℕ, zero, suc, List, [], ◌∷◌, length, All, Option, Some, Result, Ok, Err, slice_get, refl, sym, ap, subst, arith}
use Rattle.std.proofs.lemmas.Option.{get_or_from_slice_get, slice_get_within}
use Rattle.pb_rows.specs.declared.name.Names.{Names}
use Rattle.pb_study.specs.declared.results.Stage.{Stage}
use Rattle.pb_study.specs.declared.results.Study.{Study}
use Rattle.pb_graph.specs.ProcessGraph.{ProcessGraph}
use Rattle.pb_study.specs.WellFormed.{HasShapeOf, IsWellFormed, IsWellFormedStudy}
use Rattle.pb_facts.specs.declared.grade.Grade.{Grade}
use Rattle.pb_periods.specs.declared.period.Period.{Period}
use Rattle.pb_kinds.specs.declared.rows.StoredRow.{StoredRow}
use Rattle.pb_book.specs.Rows.{periods_of}
use Rattle.pb_period.specs.Days.{days_of}
use Rattle.pb_period.specs.Grades.{grades_of}
use Rattle.pb_period.specs.declared.graph.Assembly.{Assembly}
use Rattle.pb_period.specs.declared.graph.Assembly.TheVariants.{NoMemory}
use Rattle.pb_period.specs.PeriodGraph.{IsStreamOfGraph, NamesAStream, assembly_of, period_graph, period_names}
use Rattle.pb_assay.specs.Balance.{HasCountsOf, component_in}
use Rattle.pb_report.specs.Component.{component_row}
use Rattle.pb_session.specs.Keeping.{IsBalanceAt, IsStudied, IsStudiedAt}
use Rattle.pb_session.specs.Kept.{IsKeptAt}
use Rattle.pb_session.specs.Session.{AreNamesOf, Balances, BalancesIn, IsBalanceOf, ReportsBy, SessionState, last_stage}
use Rattle.pb_session.proofs.KeepingLemmas.{first_classes, has_graph}
use Rattle.pb_session.proofs.NamedLemmas.{unless_is}
use Rattle.pb_session.proofs.ReportLemmas.{at_found}

-- an item of a list for which this holds throughout
at_place : {X : Type 0} (P : X → Type 0) (xs : List X) (i : ℕ) (x : X) → slice_get xs i ≡ Some x → All P xs → P x
at_place P xs i x is all = subst P (get_or_from_slice_get xs i x x is) (all i x (slice_get_within xs i x is))

there : {X : Type 0} (xs : List X) (i : ℕ) → i < length xs → (x : X) × (slice_get xs i ≡ Some x)
there [] i within = absurd (omega (arith, within))
there (x ∷ xs) zero within = (x, refl)
there (x ∷ xs) (suc i) within = there xs i (omega (arith, within))

-- ---- the last stage

pub last_there : (study : Study) → length study.stages ≡ length study.taken + 1 → (last : Stage) × (last_stage study ≡ Some last)
last_there study between = there study.stages (length study.taken) (omega (arith, between))

-- it says something about each stream
pub each_result : (graph : ProcessGraph) (study : Study) (last : Stage) → IsWellFormedStudy graph study → last_stage study ≡ Some last → length last.streams ≡ length graph.streams
each_result graph study last formed is =
    (at_place IsWellFormed study.stages (length study.taken) last is formed.stages).each_stream
    ∙ (at_place (HasShapeOf graph) study.stages (length study.taken) last is formed.shapes).streams

-- ---- the component graph

-- the names of the graph are names of it
pub names_as : (names : Names) (graph other : ProcessGraph) → AreNamesOf names graph → HasCountsOf graph other → AreNamesOf names other
names_as names graph other named counts = record {
  each = record { nodes = named.each.nodes ∙ sym counts.nodes; streams = named.each.streams ∙ sym counts.streams };
  environment = named.environment;
  nodes = named.nodes;
  streams = named.streams;
}

-- ---- that of a period

-- the answer for the graph of a period that is found
pub balance_at : (state : SessionState) (component : List ℕ) (found : Option Period) (period : Period) (graph : ProcessGraph) (grades : List (Option Grade)) (answer : Result ProcessGraph Assembly)
    → found ≡ Some period → Ok graph ≡ assembly_of state.rows (days_of period) → grades ≡ grades_of state.rows component period → IsBalanceOf state graph grades answer
    → IsBalanceAt state component found answer
balance_at state component found period graph grades answer there is grades_are of =
    let here : IsBalanceOf state graph (grades_of state.rows component period) answer = subst (λ (gs : List (Option Grade)). IsBalanceOf state graph gs answer) grades_are of in
    subst (λ (o : Option Period). IsBalanceAt state component o answer) (sym there)
    (subst (λ (a : Result ProcessGraph Assembly). BalancesIn state (grades_of state.rows component period) a answer) is here)

-- and if the period has no graph
pub fault_at : (state : SessionState) (component : List ℕ) (found : Option Period) (period : Period) (why : Assembly) → found ≡ Some period → Err why ≡ assembly_of state.rows (days_of period)
    → IsBalanceAt state component found (Err why)
fault_at state component found period why there is =
    let answer : Result ProcessGraph Assembly = Err why in
    subst (λ (o : Option Period). IsBalanceAt state component o answer) (sym there)
    (subst (λ (a : Result ProcessGraph Assembly). BalancesIn state (grades_of state.rows component period) a answer) is refl)

-- what holds for the graph of a period that is found holds for its assembled graph
pub of_graph : (P : ProcessGraph → Type 0) (rows : List StoredRow) (found : Option Period) (period : Period) (graph : ProcessGraph) → found ≡ Some period
    → Ok graph ≡ assembly_of rows (days_of period) → P graph → IfSome found (λ (p : Period). P (period_graph rows (days_of p)))
of_graph P rows found period graph there is holds =
    let same : period_graph rows (days_of period) ≡ graph = unless_is (period_graph rows (days_of period)) graph _ is in
    subst (λ (o : Option Period). IfSome o (λ (p : Period). P (period_graph rows (days_of p)))) (sym there) (subst P (sym same) holds)

-- the text of the balance for an answer of the period that is found
pub balances_at : (state : SessionState) (component : List ℕ) (found : Option Period) (period : Period) (answer : Result ProcessGraph Assembly) (text : List ℕ) → found ≡ Some period
    → IsBalanceAt state component found answer → ReportsBy state (component_row component period.name ∷ []) (period_names state.rows (days_of period)) period.name answer text
    → Balances state component found text
balances_at state component found period answer text there at by =
    let here : IsBalanceAt state component (Some period) answer = subst (λ (o : Option Period). IsBalanceAt state component o answer) there at in
    let balance : Balances state component (Some period) text = (answer, here, by) in
    subst (λ (o : Option Period). Balances state component o text) (sym there) balance

-- ---- what the component graph of a period is made of

-- those of a kept study
pub kept_studied : (state : SessionState) (found : Option Period) (study : Study) (stage : Stage) → IsKeptAt state found study → slice_get study.stages 0 ≡ Some stage
    → IsStudiedAt state found stage.graph study
kept_studied state found study stage kept at =
    let has = has_graph state found study kept in
    let same = (first_classes has.graph _ _ study stage has.kept.is_study at).0 in
    subst (λ (g : ProcessGraph). IsStudiedAt state found g study) (sym same) (record {
      period = has.period;
      there = has.there;
      is = has.is;
      limits = has.kept.limits;
      is_study = has.kept.is_study;
      formed = has.kept.formed;
    })

-- the answer of the component graph by these
pub record AnswersAt (state : SessionState) (found : Option Period) (component : List ℕ) (answer : Result ProcessGraph Assembly) : Type 0 where
  pub at : answer ≢ Err NoMemory → IsBalanceAt state component found answer
  pub counts : IfSome found (λ (p : Period). IfOk answer (HasCountsOf (period_graph state.rows (days_of p))))
  pub over : IfSome found (λ (p : Period). IfErr answer (NamesAStream state.rows (days_of p)))

-- the answer by the last stage of the study
pub answers_at : (state : SessionState) (found : Option Period) (component : List ℕ) (graph : ProcessGraph) (study : Study) (last : Stage) (answer : Result ProcessGraph Assembly)
    → (studied : IsStudiedAt state found graph study) → last_stage study ≡ Some last
    → (answer ≢ Err NoMemory → answer ≡ component_in state.rows component studied.period graph last) → IfOk answer (HasCountsOf graph)
    → IfErr answer (IsStreamOfGraph graph) → AnswersAt state found component answer
answers_at state found component graph study last answer studied is_last is counts over =
    let period = studied.period in
    let grades = grades_of state.rows component period in
    record {
      at = λ sure. balance_at state component found period graph grades answer studied.there studied.is refl (record {
        limits = studied.limits;
        study = study;
        is_study = studied.is_study;
        last = last;
        is_last = is_last;
        is = is sure;
      });
      counts = of_graph (λ (g : ProcessGraph). IfOk answer (HasCountsOf g)) state.rows found period graph studied.there studied.is counts;
      over = of_graph (λ (g : ProcessGraph). IfErr answer (IsStreamOfGraph g)) state.rows found period graph studied.there studied.is over;
    }

-- and that of a period without a graph
pub fails_at : (state : SessionState) (found : Option Period) (component : List ℕ) (period : Period) (why : Assembly) → found ≡ Some period
    → (why ≢ NoMemory → Err why ≡ assembly_of state.rows (days_of period)) → IsStreamOfGraph (period_graph state.rows (days_of period)) why
    → AnswersAt state found component (Err why)
fails_at state found component period why there is over =
    let answer : Result ProcessGraph Assembly = Err why in
    record {
      at = λ sure. fault_at state component found period why there (is (λ none. sure (ap (λ (w : Assembly). let e : Result ProcessGraph Assembly = Err w in e) none)));
      counts = subst (λ (o : Option Period). IfSome o (λ (p : Period). IfOk answer (HasCountsOf (period_graph state.rows (days_of p))))) (sym there) tt;
      over = subst (λ (o : Option Period). IfSome o (λ (p : Period). IfErr answer (NamesAStream state.rows (days_of p)))) (sym there) over;
    }

-- what is known about the book's rows is known about the session's
pub moved : (P : List StoredRow → Period → Type 0) (rows : List StoredRow) (state : SessionState) (i : ℕ) (period : Period) → rows ≡ state.rows → slice_get (periods_of state.rows) i ≡ Some period
    → IfSome (slice_get (periods_of rows) i) (P rows) → P state.rows period
moved P rows state i period is at holds =
    at_found (slice_get (periods_of state.rows) i) period (P state.rows) at (subst (λ (rs : List StoredRow). IfSome (slice_get (periods_of rs) i) (P rs)) is holds)

-- the graph of a period that was assembled, and its study
pub studied_at : (state : SessionState) (rows : List StoredRow) (i : ℕ) (graph : ProcessGraph) (study : Study) (r : Result ProcessGraph Assembly) → rows ≡ state.rows
    → i < length (periods_of state.rows) → r ≡ Ok graph → (r ≢ Err NoMemory → IfSome (slice_get (periods_of rows) i) (λ (p : Period). r ≡ assembly_of rows (days_of p))) → IsStudied state graph study
    → IsStudiedAt state (slice_get (periods_of state.rows) i) graph study
studied_at state rows i graph study r rows_is within is answer studied =
    let sure : r ≢ Err NoMemory = λ none. cc (is, none) in
    let (period, at) = there (periods_of state.rows) i within in
    record {
      period = period;
      there = at;
      is = sym is ∙ moved (λ (rs : List StoredRow) (p : Period). r ≡ assembly_of rs (days_of p)) rows state i period rows_is at (answer sure);
      limits = studied.limits;
      is_study = studied.is_study;
      formed = studied.formed;
    }

-- and for a period that has no graph
pub none_at : (state : SessionState) (rows : List StoredRow) (i : ℕ) (component : List ℕ) (why : Assembly) (r : Result ProcessGraph Assembly) → rows ≡ state.rows
    → i < length (periods_of state.rows) → r ≡ Err why → (r ≢ Err NoMemory → IfSome (slice_get (periods_of rows) i) (λ (p : Period). r ≡ assembly_of rows (days_of p)))
    → IfSome (slice_get (periods_of rows) i) (λ (p : Period). IfErr r (NamesAStream rows (days_of p))) → AnswersAt state (slice_get (periods_of state.rows) i) component (Err why)
none_at state rows i component why r rows_is within is answer over =
    let (period, at) = there (periods_of state.rows) i within in
    let names_it = moved (λ (rs : List StoredRow) (p : Period). IfErr r (NamesAStream rs (days_of p))) rows state i period rows_is at over in
    fails_at state (slice_get (periods_of state.rows) i) component period why at
    (λ sure. sym is ∙ moved (λ (rs : List StoredRow) (p : Period). r ≡ assembly_of rs (days_of p)) rows state i period rows_is at (answer (λ none. sure (cc (is, none)))))
    (subst (λ (a : Result ProcessGraph Assembly). IfErr a (NamesAStream state.rows (days_of period))) is names_it)
