-- In version 2 a declaration doesn't change the graph of a closed period.
use Rattle.std.specs.Prelude.{filter_map, find, is_none, not, option_map, unwrap_or, if◌then◌else◌, All, IfSome}
use Rattle.std.specs.Cmp.Lexicographic.{bytes_decides}
use Rattle.std.specs.List.{list_any}
use Rattle.std.specs.Ordering.{int_eq}
use Rattle.std.proofs.Common.{◌≡◌, ◌∙◌, ◌<◌, ℕ, zero, suc, ℤ, List, [], ◌∷◌, ◌++◌, length, map, Bool, true, false, Option, Some, None, slice_get, refl, sym, ap, ap₂, subst, arith, inl, inr}
use Rattle.std.proofs.lemmas.Bool.{and_parts, cases_Bool, or_parts}
use Rattle.std.proofs.lemmas.List.{append-nil, take-append-le, take_all}
use Rattle.std.proofs.lemmas.List.Elements.{filter_map-append}
use Rattle.std.proofs.lemmas.List.Sums.{fold_push}
use Rattle.pb_rows.specs.Name.{same_name}
use Rattle.pb_strap.specs.declared.strap.Point.{Point}
use Rattle.pb_strap.specs.Table.{TableGrowsLaw, rises, volume_of}
use Rattle.pb_graph.specs.declared.records.Meas.{Meas}
use Rattle.pb_graph.specs.ProcessGraph.{ProcessGraph}
use Rattle.pb_site.specs.declared.declared.Arc.{Arc}
use Rattle.pb_site.specs.declared.declared.ArcKind.{ArcKind}
use Rattle.pb_site.specs.declared.declared.ArcKind.TheVariants.{Metered, Batch, Plain}
use Rattle.pb_site.specs.declared.declared.Declared.{Declared}
use Rattle.pb_site.specs.declared.declared.Declared.TheVariants.{Version2, Boundary, Tank, Strap, Stream, CritGlobal, CritNodal, CritMeasure}
use Rattle.pb_site.specs.declared.declared.Service.{Service}
use Rattle.pb_site.specs.declared.declared.Version.{Version}
use Rattle.pb_site.specs.declared.declared.Version.TheVariants.{Two}
use Rattle.pb_site.specs.Faults.{is_declaration_out_of_order, is_duplicate_declaration, is_mismatched_declaration, is_plant_full, refers_to_unknown, site_fault_of}
use Rattle.pb_site.specs.Laws.{IsSamePart, PlantLaw, SamePartLaw}
use Rattle.pb_site.specs.OnDays.{arcs_on, declares_in_service, names_on, nodes_on}
use Rattle.pb_site.specs.Row.{point_of}
use Rattle.pb_site.specs.Service.{day_of_opening, last_served}
use Rattle.pb_site.specs.Site.{is_tank, points_of_tank, version_of}
use Rattle.pb_facts.specs.declared.fact.Fact.{Fact}
use Rattle.pb_facts.specs.declared.fact.Fact.TheVariants.{Reading, Transfer, Dip}
use Rattle.pb_facts.specs.declared.facts.KeptFact.{KeptFact}
use Rattle.pb_facts.specs.Fact.{is_dip_on}
use Rattle.pb_facts.specs.Facts.{live_facts}
use Rattle.pb_kinds.specs.declared.rows.Effect.TheVariants.{Declares}
use Rattle.pb_book.specs.declared.answer.Refused.TheVariants.{Unknown, Duplicate, Order, Mismatch, Sealed, Closed, Range, Full}
use Rattle.pb_periods.specs.declared.period.Period.{Period}
use Rattle.pb_kinds.specs.declared.rows.StoredRow.{StoredRow}
use Rattle.pb_book.specs.Accepted.{AreAccepted, IsAcceptable}
use Rattle.pb_book.proofs.BookLaws.{consistent}
use Rattle.pb_book.specs.Refusals.{is_outside_table, is_sealed, serves_closed}
use Rattle.pb_book.specs.Rows.{declaration_in, declared_of, facts_after, facts_of, periods_of, with_row}
use Rattle.pb_periods.specs.Touching.{is_closed_in_service}
use Rattle.pb_period.specs.declared.amount.Amount.{Amount}
use Rattle.pb_period.specs.declared.days.Days.{Days}
use Rattle.pb_period.specs.Days.{days_of}
use Rattle.pb_period.specs.Facts.{content_of}
use Rattle.pb_period.specs.Laws.{ClosedGraphsLaw}
use Rattle.pb_period.specs.Measurement.{amount_of, change_of, closing_less_opening, measurement}
use Rattle.pb_period.specs.PeriodGraph.{period_graph, served_graph, stream_among, within_limits, measured_in}
use Rattle.pb_period.proofs.PlainLemmas.{graph_by, graph_is}
use Rattle.pb_period.proofs.PlantLemmas.{no_fault, plant_of}
use Rattle.pb_period.proofs.VarianceLemmas.{live_have}

-- ---- what a tank holds by a table that grows

up : (b : Bool) → not b ≡ false → b ≡ true
up true e = refl
up false e = cc e

-- a volume by the old table is a volume by the table with one more declaration
volume_more : TableGrowsLaw → (declared : List Declared) (row : Declared) (tank : List ℕ) (level volume : ℤ) → is_declaration_out_of_order declared row ≡ false
    → volume_of (points_of_tank declared tank) level ≡ Some volume → volume_of (points_of_tank declared tank ++ filter_map (point_of tank) (row ∷ [])) level ≡ Some volume
volume_more grows declared (Strap name mm ml) tank level volume order at = elim (cases_Bool (same_name name tank)) [
  | inl same ↦
      let is : name ≡ tank = (bytes_decides name tank).0 same in
      let rising : rises (points_of_tank declared tank) mm ml ≡ true = up (rises (points_of_tank declared tank) mm ml) (subst (λ (t : List ℕ). not (rises (points_of_tank declared t) mm ml) ≡ false) is order) in
      rw same (grows (points_of_tank declared tank) mm ml level volume rising at)
  | inr other ↦ rw (other, append-nil (points_of_tank declared tank)) at
]
volume_more grows declared Version2 tank level volume order at = rw (append-nil (points_of_tank declared tank)) at
volume_more grows declared (Declared.Unit name) tank level volume order at = rw (append-nil (points_of_tank declared tank)) at
volume_more grows declared (Boundary name) tank level volume order at = rw (append-nil (points_of_tank declared tank)) at
volume_more grows declared (Tank name base service) tank level volume order at = rw (append-nil (points_of_tank declared tank)) at
volume_more grows declared (Stream name from to kind base service) tank level volume order at = rw (append-nil (points_of_tank declared tank)) at
volume_more grows declared (CritGlobal dof value) tank level volume order at = rw (append-nil (points_of_tank declared tank)) at
volume_more grows declared (CritNodal value) tank level volume order at = rw (append-nil (points_of_tank declared tank)) at
volume_more grows declared (CritMeasure value) tank level volume order at = rw (append-nil (points_of_tank declared tank)) at

-- so is that of a dip that lies in its table
same_volume : TableGrowsLaw → (declared : List Declared) (row : Declared) (tank : List ℕ) (id : List ℕ) (day mm density variance : ℤ) → is_declaration_out_of_order declared row ≡ false
    → is_outside_table declared (Dip id tank day mm density variance) ≡ false → volume_of (points_of_tank (declared ++ row ∷ []) tank) mm ≡ volume_of (points_of_tank declared tank) mm
same_volume grows declared row tank id day mm density variance order inside = elim (cases_Bool (is_tank declared tank)) [
  | inl is ↦ by (volume_of (points_of_tank declared tank) mm) refl (rw is at inside)
  | inr none ↦ cc (rw none at inside)
]
  where
    by : (o : Option ℤ) → volume_of (points_of_tank declared tank) mm ≡ o → is_none o ≡ false → volume_of (points_of_tank (declared ++ row ∷ []) tank) mm ≡ volume_of (points_of_tank declared tank) mm
    by None at inside = cc inside
    by (Some volume) at inside =
        ap (λ (points : List Point). volume_of points mm) (filter_map-append (point_of tank) declared (row ∷ []))
        ∙ volume_more grows declared row tank mm volume order at ∙ sym at

-- the content by a dip of a tank
same_content : TableGrowsLaw → (declared : List Declared) (row : Declared) (tank : List ℕ) (day : ℤ) → is_declaration_out_of_order declared row ≡ false
    → (fact : Fact) → is_dip_on tank day fact ≡ true → is_outside_table declared fact ≡ false
    → content_of (points_of_tank (declared ++ row ∷ []) tank) fact ≡ content_of (points_of_tank declared tank) fact
same_content grows declared row tank day order (Reading id own d grams variance) is inside = refl
same_content grows declared row tank day order (Transfer id own first last grams variance) is inside = refl
same_content grows declared row tank day order (Dip id own d mm density variance) is inside =
    let on = and_parts (same_name own tank) (int_eq d day) is in
    let named : own ≡ tank = (bytes_decides own tank).0 on.0 in
    let here : is_outside_table declared (Dip id tank d mm density variance) ≡ false = subst (λ (t : List ℕ). is_outside_table declared (Dip id t d mm density variance) ≡ false) named inside in
    rw (same_volume grows declared row tank id d mm density variance order here) refl

-- what is found has what follows from the test and from what all have
found_has : {A : Type 0} (P Q : A → Type 0) (test : A → Bool) (xs : List A) → ((x : A) → test x ≡ true → P x → Q x) → All P xs → IfSome (find test xs) Q
found_has P Q test [] each all = tt
found_has P Q test (x ∷ xs) each all = elim (cases_Bool (test x)) [
  | inl here ↦ rw here (each x here (all 0 x (omega arith)))
  | inr later ↦ rw later (found_has P Q test xs each (λ k d lt. all (suc k) d (omega (arith, lt))))
]

same_change : (content other : Fact → Amount) (opening closing : Option Fact) → IfSome opening (λ fact. content fact ≡ other fact) → IfSome closing (λ fact. content fact ≡ other fact)
    → change_of content opening closing ≡ change_of other opening closing
same_change content other None closing before after = refl
same_change content other (Some opening) None before after = refl
same_change content other (Some opening) (Some closing) before after =
    ap₂ (λ (a b : Amount). Some (closing_less_opening a b)) before after

abbrev IsInTable : List Declared → Fact → Type 0
IsInTable declared fact = is_outside_table declared fact ≡ false

-- what facts say about an arc, if their dips lie in their tables, they still say after one more declaration
same_amount : TableGrowsLaw → (declared : List Declared) (row : Declared) (facts : List Fact) (days : Days) (service : Option Service) (kind : ArcKind) (name : List ℕ)
    → is_declaration_out_of_order declared row ≡ false → All (IsInTable declared) facts
    → amount_of (declared ++ row ∷ []) facts days service kind name ≡ amount_of declared facts days service kind name
same_amount grows declared row facts days service Metered name order inside = refl
same_amount grows declared row facts days service Batch name order inside = refl
same_amount grows declared row facts days service Plain name order inside = refl
same_amount grows declared row facts days service ArcKind.Tank name order inside =
    let content = content_of (points_of_tank (declared ++ row ∷ []) name) in
    let other = content_of (points_of_tank declared name) in
    let Same : Fact → Type 0 = λ fact. content fact ≡ other fact in
    let opening = day_of_opening service days.first in
    let closing = last_served service days.last in
    same_change content other (find (is_dip_on name opening) facts) (find (is_dip_on name closing) facts)
    (found_has (IsInTable declared) Same (is_dip_on name opening) facts (same_content grows declared row name opening order) inside)
    (found_has (IsInTable declared) Same (is_dip_on name closing) facts (same_content grows declared row name closing order) inside)

-- the graph of the part in service, if that is the same
same_served : TableGrowsLaw → (declared : List Declared) (row : Declared) (facts : List Fact) (days : Days) → is_declaration_out_of_order declared row ≡ false → All (IsInTable declared) facts
    → IsSamePart declared (declared ++ row ∷ []) days.first days.last → served_graph (declared ++ row ∷ []) facts days ≡ served_graph declared facts days
same_served grows declared row facts days order inside same =
    let grown = declared ++ row ∷ [] in
    let graph : List ℕ → List Arc → (Arc → Option Meas) → ProcessGraph = λ nodes arcs measure. record { nodes = length nodes; streams = map (stream_among nodes measure) arcs } in
    let measured : measured_in Two grown facts days ≡ measured_in Two declared facts days =
    λ i arc. option_map (measurement arc.base) (same_amount grows declared row facts days arc.service arc.kind arc.name order inside i) in
    ap₂ (λ (nodes : List ℕ) (arcs : List Arc). graph nodes arcs (measured_in Two grown facts days)) same.nodes same.arcs
    ∙ ap (graph (nodes_on Two declared days.first days.last) (arcs_on Two declared days.first days.last)) measured

-- ---- what was accepted before a row, and the row

front_at : {A : Type 0} (xs ys : List A) (i : ℕ) (x : A) → slice_get xs i ≡ Some x → (slice_get (xs ++ ys) i ≡ Some x) × (i < length xs)
front_at [] ys i x at = cc at
front_at (y ∷ xs) ys zero x at = (at, omega arith)
front_at (y ∷ xs) ys (suc i) x at = let rest = front_at xs ys i x at in (rest.0, omega (arith, rest.1))

last_at : {A : Type 0} (xs : List A) (x : A) → slice_get (xs ++ x ∷ []) (length xs) ≡ Some x
last_at [] x = refl
last_at (y ∷ xs) x = last_at xs x

before_last : (rows : List StoredRow) (stored : StoredRow) → AreAccepted (rows ++ stored ∷ []) → AreAccepted rows
before_last rows stored accepted i other at =
    let there = front_at rows (stored ∷ []) i other at in
    subst (λ (rs : List StoredRow). IsAcceptable rs other.effect) (take-append-le i rows (stored ∷ []) (omega (arith, there.1))) (accepted i other there.0)

the_last : (rows : List StoredRow) (stored : StoredRow) → AreAccepted (rows ++ stored ∷ []) → IsAcceptable rows stored.effect
the_last rows stored accepted =
    subst (λ (rs : List StoredRow). IsAcceptable rs stored.effect) (take-append-le (length rows) rows (stored ∷ []) (omega arith) ∙ take_all (length rows) rows (omega arith))
    (accepted (length rows) stored (last_at rows stored))

-- what isn't refused is in order, and isn't sealed
fine : (a b c d e f : Bool)
    → (if a then Some Unknown else if b then Some Duplicate else if c then Some Order else if d then Some Mismatch else if e then Some Sealed
    else if false then Some Closed else if false then Some Range else if f then Some Full else None) ≡ None → (c ≡ false) × (e ≡ false)
fine true b c d e f none = cc none
fine false true c d e f none = cc none
fine false false true d e f none = cc none
fine false false false true e f none = cc none
fine false false false false true f none = cc none
fine false false false false false f none = (refl, refl)

-- ---- the days of a closed period

none_at : {A : Type 0} (p : A → Bool) (xs : List A) (i : ℕ) (x : A) → list_any p xs ≡ false → slice_get xs i ≡ Some x → p x ≡ false
none_at p [] i x none at = cc at
none_at p (y ∷ xs) zero x none at = let same : y ≡ x = ap (λ (o : Option _). unwrap_or o y) at in subst (λ (z : _). p z ≡ false) same (or_parts (p y) (list_any p xs) none).0
none_at p (y ∷ xs) (suc i) x none at = none_at p xs i x (or_parts (p y) (list_any p xs) none).1 at

-- what isn't in service on a day of a closed period isn't in service on a day of this one
away : (declared : Declared) (periods : List Period) (i : ℕ) (period : Period) → serves_closed periods declared ≡ false → slice_get periods i ≡ Some period → period.closed ≡ true
    → declares_in_service period.first period.last declared ≡ false
away (Tank name base service) periods i period none at closed = rw closed at (none_at (is_closed_in_service service) periods i period none at)
away (Stream name from to kind base service) periods i period none at closed = rw closed at (none_at (is_closed_in_service service) periods i period none at)
away Version2 periods i period none at closed = refl
away (Declared.Unit name) periods i period none at closed = refl
away (Boundary name) periods i period none at closed = refl
away (Strap tank mm ml) periods i period none at closed = refl
away (CritGlobal dof value) periods i period none at closed = refl
away (CritNodal value) periods i period none at closed = refl
away (CritMeasure value) periods i period none at closed = refl

-- a session of version 2 stays one
still_two : (declared more : List Declared) → version_of declared ≡ Two → version_of (declared ++ more) ≡ Two
still_two [] more is = cc is
still_two (Version2 ∷ declared) more is = refl
still_two (Declared.Unit name ∷ declared) more is = cc is
still_two (Boundary name ∷ declared) more is = cc is
still_two (Tank name base service ∷ declared) more is = cc is
still_two (Strap tank mm ml ∷ declared) more is = cc is
still_two (Stream name from to kind base service ∷ declared) more is = cc is
still_two (CritGlobal dof value ∷ declared) more is = cc is
still_two (CritNodal value ∷ declared) more is = cc is
still_two (CritMeasure value ∷ declared) more is = cc is

pub closed_graphs : PlantLaw → SamePartLaw → TableGrowsLaw → ClosedGraphsLaw
closed_graphs plant_law same_part grows rows at declared i period accepted two there closed =
    let stored : StoredRow = record { at = at; effect = Declares declared } in
    let new = with_row rows at (Declares declared) in
    let days = days_of period in
    let before = declared_of rows in
    let ones = before_last rows stored accepted in
    let one = the_last rows stored accepted in
    let plant = plant_of plant_law rows ones in
    let sound = consistent rows ones in
    let version = version_of before in
    let cause : _ = one.no_cause in
    let parts = fine (refers_to_unknown before declared) (is_duplicate_declaration before declared) (is_declaration_out_of_order before declared) (is_mismatched_declaration before declared)
    (is_sealed version (periods_of rows) (Declares declared)) (is_plant_full version before declared) cause in
    let none : site_fault_of version before declared ≡ None = no_fault (refers_to_unknown before declared) (is_duplicate_declaration before declared) (is_declaration_out_of_order before declared)
    (is_mismatched_declaration before declared) (is_sealed version (periods_of rows) (Declares declared)) (is_plant_full version before declared) cause in
    let open_ones : serves_closed (periods_of rows) declared ≡ false = subst (λ (v : Version). is_sealed v (periods_of rows) (Declares declared) ≡ false) two parts.1 in
    let same = same_part before declared period.first period.last plant none (away declared (periods_of rows) i period open_ones there closed) in
    let declared_is : declared_of new ≡ before ++ declared ∷ [] = filter_map-append (λ (s : StoredRow). declaration_in s.effect) rows (stored ∷ []) in
    let facts_is : facts_of new ≡ facts_of rows = fold_push (λ (kept : List KeptFact) (s : StoredRow). facts_after kept s.effect) [] rows stored in
    let two_now : version_of (declared_of new) ≡ Two = ap version_of declared_is ∙ still_two before (declared ∷ []) two in
    let inside = live_have (IsInTable before) (facts_of rows) sound.in_tables in
    let graph : period_graph new days ≡ period_graph rows days =
    graph_is (version_of (declared_of new)) new days
    ∙ ap (λ (v : Version). graph_by v (declared_of new) (live_facts (facts_of new)) days) two_now
    ∙ ap₂ (λ (ds : List Declared) (kept : List KeptFact). served_graph ds (live_facts kept) days) declared_is facts_is
    ∙ same_served grows before declared (live_facts (facts_of rows)) days parts.0 inside same
    ∙ ap (λ (v : Version). graph_by v before (live_facts (facts_of rows)) days) (sym two)
    ∙ sym (graph_is (version_of before) rows days) in
    record {
      graph = ap within_limits graph;
      names = ap₂ (λ (v : Version) (ds : List Declared). names_on v ds days.first days.last) two_now declared_is ∙ same.names
          ∙ ap (λ (v : Version). names_on v before days.first days.last) (sym two);
    }
