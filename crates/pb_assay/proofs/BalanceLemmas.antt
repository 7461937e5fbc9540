-- The grades of the streams of a period that is found.
use Rattle.std.specs.Prelude.{map}
use Rattle.std.proofs.Common.{◌≡◌, ◌∙◌, ◌<◌, ℕ, zero, suc, List, [], ◌∷◌, length, Option, Some, None, IfSome, Ok, refl, slice_get, ap, subst, arith}
use Rattle.std.proofs.lemmas.List.{length-map}
use Rattle.pb_rows.specs.declared.name.Names.{Names}
use Rattle.pb_graph.specs.ProcessGraph.{ProcessGraph}
use Rattle.pb_facts.specs.declared.grade.Grade.{Grade}
use Rattle.pb_periods.specs.declared.period.Period.{Period}
use Rattle.pb_kinds.specs.declared.rows.StoredRow.{StoredRow}
use Rattle.pb_book.specs.Assays.{grade_of}
use Rattle.pb_book.specs.Rows.{periods_of}
use Rattle.pb_period.specs.Days.{days_of}
use Rattle.pb_period.specs.Grades.{grades_of}
use Rattle.pb_period.specs.Laws.{AreGraphNames}
use Rattle.pb_period.specs.PeriodGraph.{assembly_of, period_graph, period_names, unless_over}
use Rattle.pb_assay.specs.Balance.{IsGraphAt}

-- what holds for a period that is found
pub at_found : (found : Option Period) (period : Period) (P : Period → Type 0) → found ≡ Some period → IfSome found P → P period
at_found (Some other) period P is holds = let same : other ≡ period = cc is in subst P same holds
at_found None period P is holds = cc is

-- what holds for the period that is found
pub for_found : (found : Option Period) (P : Period → Type 0) → ((period : Period) → found ≡ Some period → P period) → IfSome found P
for_found (Some period) P holds = holds period refl
for_found None P holds = tt

pub there : {X : Type 0} (xs : List X) (i : ℕ) → i < length xs → (x : X) × (slice_get xs i ≡ Some x)
there [] i within = absurd (omega (arith, within))
there (x ∷ xs) zero within = (x, refl)
there (x ∷ xs) (suc i) within = there xs i (omega (arith, within))

unless_is : (made graph : ProcessGraph) (found : Option ℕ) → Ok graph ≡ unless_over made found → made ≡ graph
unless_is made graph (Some stream) is = cc is
unless_is made graph None is = cc is

-- the grades that were found are those of the streams of the period's graph, one for each
pub record AreGrades (rows : List StoredRow) (i : ℕ) (component : List ℕ) (graph : ProcessGraph) (grades : List (Option Grade)) : Type 0 where
  pub each : length grades ≡ length graph.streams
  pub are : (period : Period) → slice_get (periods_of rows) i ≡ Some period → grades ≡ grades_of rows component period

pub grades_are : (rows : List StoredRow) (i : ℕ) (component : List ℕ) (graph : ProcessGraph) (names : Names) (asked : List (List ℕ)) (grades : List (Option Grade)) → i < length (periods_of rows)
    → IsGraphAt rows i graph → asked ≡ names.streams → IfSome (slice_get (periods_of rows) i) (λ (p : Period). grades ≡ map (grade_of rows component p.name) asked)
    → IfSome (slice_get (periods_of rows) i) (λ (p : Period). names ≡ period_names rows (days_of p))
    → IfSome (slice_get (periods_of rows) i) (λ (p : Period). AreGraphNames (period_names rows (days_of p)) (period_graph rows (days_of p)))
    → AreGrades rows i component graph grades
grades_are rows i component graph names asked grades within graph_is asked_is value names_is named =
    let found = slice_get (periods_of rows) i in
    let (period, at) = there (periods_of rows) i within in
    let given = at_found found period (λ (p : Period). grades ≡ map (grade_of rows component p.name) asked) at value in
    let names_here = at_found found period (λ (p : Period). names ≡ period_names rows (days_of p)) at names_is in
    let own = at_found found period (λ (p : Period). AreGraphNames (period_names rows (days_of p)) (period_graph rows (days_of p))) at named in
    let graph_here = at_found found period (λ (p : Period). Ok graph ≡ assembly_of rows (days_of p)) at graph_is in
    let made : period_graph rows (days_of period) ≡ graph = unless_is (period_graph rows (days_of period)) graph _ graph_here in
    let same : asked ≡ (period_names rows (days_of period)).streams = asked_is ∙ ap (λ (n : Names). n.streams) names_here in
    let are : grades ≡ grades_of rows component period = given ∙ ap (map (grade_of rows component period.name)) same in
    let each : length grades ≡ length graph.streams =
    ap (λ (gs : List (Option Grade)). length gs) given ∙ length-map asked (grade_of rows component period.name) ∙ ap (λ (ss : List (List ℕ)). length ss) same ∙ own.each_stream
    ∙ ap (λ (g : ProcessGraph). length g.streams) made in
    record {
      each = each;
      are = λ other other_at. let one : period ≡ other = cc (at, other_at) in subst (λ (p : Period). grades ≡ grades_of rows component p) one are;
    }
