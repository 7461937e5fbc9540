-- The text of a window of a book.
use Rattle.std.specs.Prelude.{map, OnErr, OnOk}
use Rattle.std.proofs.Common.{◌≡◌, ◌∙◌, ℕ, List, [], ◌++◌, length, slice_get, Option, Some, Result, Ok, Err, sym, ap, ap₂, subst, append_assoc, take}
use Rattle.std.proofs.Math.Seq.{take-append_seam}
use Rattle.std.proofs.lemmas.Grind.{flat_map-append}
use Rattle.std.proofs.lemmas.List.{length-map}
use Rattle.pb_rows.specs.declared.name.Names.{Names}
use Rattle.pb_graph.specs.ProcessGraph.{ProcessGraph}
use Rattle.pb_plan.specs.declared.names.WindowPlace.{WindowPlace}
use Rattle.pb_plan.specs.Codes.{window_names}
use Rattle.pb_periods.specs.declared.period.Period.{Period}
use Rattle.pb_kinds.specs.declared.rows.StoredRow.{StoredRow}
use Rattle.pb_book.specs.Rows.{periods_of}
use Rattle.pb_book.specs.Windows.{ArePlacesBetween, OfEnds, window_between}
use Rattle.pb_periods.specs.Windows.{periods_between}
use Rattle.pb_period.specs.declared.graph.Assembly.{Assembly}
use Rattle.pb_report.specs.Form.{row_text, text_in}
use Rattle.pb_report.specs.Row.{OutputRow}
use Rattle.pb_report.specs.Study.{study_rows}
use Rattle.pb_report.specs.Window.{window_rows}
use Rattle.pb_window.specs.Between.{assembly_between, named_between, places_between, with_names}
use Rattle.pb_session.specs.Session.{IsReport, ReportsBy, SessionState, Windows, window_head}

pub same_found : {A : Type 0} (a b : A) (found : Option A) → found ≡ Some a → found ≡ Some b → a ≡ b
same_found a b found one other = cc (one, other)

-- as many places as periods
as_many_places : {A : Type 0} (xs : List A) (places : List ℕ) (items : List A) → map (slice_get xs) places ≡ map (λ (x : A). Some x) items → length places ≡ length items
as_many_places {A = A} xs places items is =
    sym (length-map places (slice_get xs)) ∙ ap (λ (os : List (Option A)). length os) is ∙ length-map items (λ (x : A). Some x)

-- the rows before the report of a window, as they are written
pub head_is : (rows : List StoredRow) (first last : ℕ) (places : List ℕ) (a b one other : Period) (stand_for : List WindowPlace) → ArePlacesBetween rows first last places
    → slice_get (periods_of rows) first ≡ Some a → slice_get (periods_of rows) last ≡ Some b → slice_get (periods_of rows) first ≡ Some one → slice_get (periods_of rows) last ≡ Some other
    → stand_for ≡ places_between rows one other → window_rows a.name b.name (length places) stand_for ≡ window_head rows one other
head_is rows first last places a b one other stand_for between a_is b_is first_is last_is stand_is =
    let periods = periods_of rows in
    let many : length places ≡ length (periods_between periods one other) = as_many_places periods places (periods_between periods one other) (between one other first_is last_is) in
    ap₂ (λ (x y : Period). window_rows x.name y.name (length places) stand_for) (same_found a one (slice_get periods first) a_is first_is) (same_found b other (slice_get periods last) b_is last_is)
    ∙ ap₂ (λ (n : ℕ) (ps : List WindowPlace). window_rows one.name other.name n ps) many stand_is

-- ---- the text

-- the text of a window whose ends are found
pub windows_at : (state : SessionState) (first last : ℕ) (one other : Period) (assembly : Result ProcessGraph Assembly) (text : List ℕ) → slice_get (periods_of state.rows) first ≡ Some one
    → slice_get (periods_of state.rows) last ≡ Some other → assembly ≡ assembly_between state.rows one other
    → ReportsBy state (window_head state.rows one other) (window_names (window_between state.rows one other)) one.name assembly text
    → Windows state (slice_get (periods_of state.rows) first) (slice_get (periods_of state.rows) last) text
windows_at state first last one other assembly text first_is last_is is by =
    subst (λ (o : Option Period). Windows state o (slice_get (periods_of state.rows) last) text) (sym first_is)
    (subst (λ (o : Option Period). Windows state (Some one) o text) (sym last_is)
    (subst (λ (a : Result ProcessGraph Assembly). ReportsBy state (window_head state.rows one other) (window_names (window_between state.rows one other)) one.name a text) is by))

-- rows were appended, and then a report
pub after_ok : {T E : Type 0} (r : Result T E) (state : SessionState) (rows : List OutputRow) (names : Names) (period : List ℕ) (graph : ProcessGraph) (old middle new : List ℕ)
    → middle ≡ old ++ text_in state.form rows → OnOk r ((t : List ℕ) × (new ≡ middle ++ t) × IsReport state [] names period graph t)
    → OnOk r ((t : List ℕ) × (new ≡ old ++ t) × IsReport state rows names period graph t)
after_ok (Ok x) state rows names period graph old middle new begun (text, written, report) =
    let head = text_in state.form rows in (
      head ++ text,
      written ∙ ap (λ (t : List ℕ). t ++ text) begun ∙ append_assoc old head text,
      record {
        limits = report.limits;
        named = report.named;
        study = report.study;
        is_study = report.is_study;
        certified = report.certified;
        least = report.least;
        tested = report.tested;
        rows =
            ap (λ (t : List ℕ). head ++ t) report.rows
            ∙ sym (flat_map-append (row_text state.form) rows (study_rows names period state.options report.study));
      },
    )
after_ok (Err e) state rows names period graph old middle new begun appended = tt

-- no rows stay if there is no memory for the report after them
pub after_err : {T E : Type 0} (r : Result T E) (old head middle new : List ℕ) (before : ℕ) → before ≡ length old → middle ≡ old ++ head → OnErr r (new ≡ take before middle)
    → OnErr r (new ≡ old)
after_err (Ok x) old head middle new before before_is begun kept = tt
after_err (Err e) old head middle new before before_is begun kept = kept ∙ ap₂ take before_is begun ∙ take-append_seam old head

-- the rows of a window were appended, and then a report
pub head_ok : {T E : Type 0} (r : Result T E) (state : SessionState) (first last : ℕ) (a : Period) (names : Names) (graph : ProcessGraph) (rows : List OutputRow) (old middle new : List ℕ)
    → slice_get (periods_of state.rows) first ≡ Some a → OfEnds state.rows first last (λ (one other : Period). rows ≡ window_head state.rows one other) → middle ≡ old ++ text_in state.form rows
    → OnOk r ((t : List ℕ) × (new ≡ middle ++ t) × IsReport state [] names a.name graph t)
    → OnOk r (OfEnds state.rows first last (λ (one other : Period). (t : List ℕ) × (new ≡ old ++ t) × IsReport state (window_head state.rows one other) names one.name graph t))
head_ok (Err e) state first last a names graph rows old middle new a_is heads begun appended = tt
head_ok {T = T} {E = E} (Ok x) state first last a names graph rows old middle new a_is heads begun (text, written, report) = λ one other first_is last_is.
    let one_is : a ≡ one = same_found a one (slice_get (periods_of state.rows) first) a_is first_is in
    let said : Result T E = Ok x in
    after_ok said state (window_head state.rows one other) names one.name graph old middle new
    (begun ∙ ap (λ (rs : List OutputRow). old ++ text_in state.form rs) (heads one other first_is last_is))
    (text, written, subst (λ (p : Period). IsReport state [] names p.name graph text) one_is report)

-- a report after the rows of a window was appended
pub windows_ok : {T E : Type 0} (r : Result T E) (state : SessionState) (first last : ℕ) (one other : Period) (names : Names) (graph : ProcessGraph) (old new : List ℕ)
    → slice_get (periods_of state.rows) first ≡ Some one → slice_get (periods_of state.rows) last ≡ Some other → names ≡ window_names (window_between state.rows one other)
    → Ok graph ≡ assembly_between state.rows one other
    → OnOk r (OfEnds state.rows first last (λ (a b : Period). (t : List ℕ) × (new ≡ old ++ t) × IsReport state (window_head state.rows a b) names a.name graph t))
    → OnOk r ((t : List ℕ) × (new ≡ old ++ t) × Windows state (slice_get (periods_of state.rows) first) (slice_get (periods_of state.rows) last) t)
windows_ok (Ok x) state first last one other names graph old new first_is last_is names_are graph_is appended =
    let (text, written, is) = appended one other first_is last_is in
    let by = subst (λ (n : Names). IsReport state (window_head state.rows one other) n one.name graph text) names_are is in
    (text, written, windows_at state first last one other (Ok graph) text first_is last_is graph_is by)
windows_ok (Err e) state first last one other names graph old new first_is last_is names_are graph_is appended = tt

-- ---- what is made of the window between two periods

made_graph : (names other : Names) (graph : ProcessGraph) (assembly : Result ProcessGraph Assembly) → Ok (graph, names) ≡ with_names other assembly → (names ≡ other) × (Ok graph ≡ assembly)
made_graph names other graph (Ok made) is =
    let same : (graph, names) ≡ (made, other) = cc is in
    let graph_is : graph ≡ made = ap (λ (p : ProcessGraph × Names). p.0) same in
    (ap (λ (p : ProcessGraph × Names). p.1) same, ap (λ (g : ProcessGraph). let r : Result ProcessGraph Assembly = Ok g in r) graph_is)
made_graph names other graph (Err why) is = cc is

-- the graph and its names
pub graph_between : (rows : List StoredRow) (one other : Period) (graph : ProcessGraph) (names : Names) (r : Result (ProcessGraph × Names) Assembly) → r ≡ Ok (graph, names)
    → r ≡ named_between rows one other → (names ≡ window_names (window_between rows one other)) × (Ok graph ≡ assembly_between rows one other)
graph_between rows one other graph names r made is = made_graph names (window_names (window_between rows one other)) graph (assembly_between rows one other) (sym made ∙ is)

made_fault : (names : Names) (why : Assembly) (assembly : Result ProcessGraph Assembly) → Err why ≡ with_names names assembly → Err why ≡ assembly
made_fault names why (Ok made) is = cc is
made_fault names why (Err other) is =
    let same : why ≡ other = cc is in ap (λ (w : Assembly). let r : Result ProcessGraph Assembly = Err w in r) same

-- or the stream beyond the limits
pub fault_between_is : (rows : List StoredRow) (one other : Period) (why : Assembly) (r : Result (ProcessGraph × Names) Assembly) → r ≡ Err why → r ≡ named_between rows one other
    → Err why ≡ assembly_between rows one other
fault_between_is rows one other why r made is = made_fault (window_names (window_between rows one other)) why (assembly_between rows one other) (sym made ∙ is)
