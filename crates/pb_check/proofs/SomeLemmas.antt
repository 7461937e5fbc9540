-- Each stage passes a test or fails it.
use Rattle.std.proofs.Common.{◌≡◌, ◌∙◌, ◌⊎◌, ℕ, suc, ◌<◌, ◌≤◌, ℤ, pos, ◌*ℤ◌, ◌==◌, Bool, List, [], ◌∷◌, length, map, All, Option, Some, None, slice_get, get_or, refl, sym, ap, ap₂, subst, inl, inr, arith}
use Rattle.std.specs.Prelude.{◌≢◌, IfSome, IsSomeAnd, is_some, unsigned_abs, if◌then◌else◌}
use Rattle.std.proofs.lemmas.List.{length-map}
use Rattle.std.proofs.lemmas.Bool.{cases_Bool, cases_eq, cases_lt}
use Rattle.std.proofs.lemmas.Option.{slice_get-get_or}
use Rattle.pb_fixed.proofs.Lists.{some_same}
use Rattle.pb_graph.specs.declared.records.Meas.{Meas}
use Rattle.pb_graph.specs.declared.records.Stream.{Stream}
use Rattle.pb_study.specs.declared.results.Bounds.{Bounds as BoundsOf}
use Rattle.pb_study.specs.declared.results.Solved.{Solved}
use Rattle.pb_study.specs.declared.results.Solved.TheVariants.{Converged, Unconverged}
use Rattle.pb_study.specs.declared.results.Verdict.{Verdict as VerdictOf}
use Rattle.pb_study.specs.declared.results.Verdict.TheVariants.{Reject, Accept, Undecided, NoCritical, NoTest}
use Rattle.pb_study.specs.declared.results.NodalTest.{NodalTest}
use Rattle.pb_study.specs.declared.results.MeasureTest.{MeasureTest}
use Rattle.pb_study.specs.declared.results.StreamResult.{StreamResult}
use Rattle.pb_study.specs.declared.results.Tests.{Tests}
use Rattle.pb_study.specs.declared.results.Stage.{Stage}
use Rattle.pb_graph.specs.ProcessGraph.{IsProcessGraph}
use Rattle.pb_study.specs.WellFormed.{IsWellFormed}
use Rattle.pb_graph.specs.Balance.{net_of, IsBalanced}
use Rattle.pb_graph.specs.Certificates.{Shows, IsCertified}
use Rattle.pb_graph.specs.Groups.{IsFreeGroup, is_free_group, group_at}
use Rattle.pb_graph.specs.Prices.{IsInBox, most_adjustment, rise_of}
use Rattle.pb_dual.specs.Candidates.{room_of}
use Rattle.pb_graph.proofs.ReachLemmas.{IsDecidable}
use Rattle.pb_graph.proofs.GroupLaws.{some_groups_law, free_law}
use Rattle.pb_forest.specs.Forest.{degrees_of_freedom}
use Rattle.pb_forest.proofs.ForestLaws.{some_forest_law}
use Rattle.pb_gap.specs.declared.gap.Gap.{Gap as GapOf}
use Rattle.pb_stage.specs.Laws.{SomeNodalTestsLaw}
use Rattle.pb_stage.specs.Nodal.{AreNodalTests}
use Rattle.pb_stage.specs.Verdicts.{global_verdict}
use Rattle.pb_stage.specs.Printed.{printed_price, printed_flows, printed_gap, have_least, EachStream}
use Rattle.pb_stage.specs.Certified.{IsMeasureVerdict, IsNodalVerdict, unjudged, found_bounds, found_least}
use Rattle.pb_stage.specs.Freedom.{HasFreedom}
use Rattle.pb_check.specs.declared.faults.Test.TheVariants.{Freedom, Gap, State, Statistic, Least}
use Rattle.pb_check.specs.declared.faults.Place.TheVariants.{Node, Whole}
use Rattle.pb_check.specs.declared.faults.Place.{Place}
use Rattle.pb_check.specs.declared.faults.Fault.{Fault}
use Rattle.pb_check.specs.First.{IsFirstWithout}
use Rattle.pb_check.specs.Asked.{HasClassAt, HasGroupPriceAt, found_gap, IsStateAt, found_low, found_high}
use Rattle.pb_check.specs.Faults.{bare_fault_at, fault_at, first_differing, row_numbers, AreRowsFault, AreVerdictsFault, IsBoundsFault, IsBoxFault, IsPriceFault}
use Rattle.pb_check.specs.Verdict.{Passes, Fails}
use Rattle.pb_check.specs.Places.{AreNodalRows, AreVerdicts, AtStream, IsBalanceFault, IsEvenAt, IsFirstMeasure, IsFirstNodal, IsNodalRowsFault, IsStreamFault}
use Rattle.pb_check.proofs.ClassLemmas.{HasClass, bits_of, class_of, class_there, of_bits}
use Rattle.pb_check.proofs.DecideLemmas.{decided_both, decided_as, decided_not, decided_if, each_or_first}
use Rattle.pb_check.proofs.GroupLemmas.{some_least, has_price}
use Rattle.pb_check.proofs.PlaceLemmas.{each_or_fails, some_and, some_at}
use Rattle.pb_check.proofs.StateLemmas.{result_bounded, result_least_bounded}
use Rattle.pb_check.proofs.ShownLemmas.{int_decided, true_decided, bits_decided, option_decided, at_decided, shows_decided}

-- a test is passed, or fails with a fault
abbrev pub Either : Type 0 → (Fault → Type 0) → Type 0
Either P F = P ⊎ ((fault : Fault) × F fault)

-- ---- 1, 2
stream_either : (stage : Stage) (P : ℕ → StreamResult → Type 0) → ((j : ℕ) → j < length stage.streams → IsDecidable (AtStream stage P j))
    → Either (EachStream stage P) (IsStreamFault stage P)
stream_either stage P decided = elim (each_or_fails P stage.streams decided) [
  | inl each ↦ inl each
  | inr (j, r, first, at) ↦ inr (bare_fault_at (Place.Stream j), record { place = j; item = r; first = first; item_is = at; reported = refl })
]

has_class_decided : (b : Bool) (s : Stream) (r : StreamResult) → IsDecidable (HasClass b s r)
has_class_decided b s r =
    decided_as (λ p. of_bits b s r (record { measured = p.0; bounded = p.1.0; least_bounded = p.1.1 }))
    (λ has. let h = bits_of b s r has in (h.measured, (h.bounded, h.least_bounded)))
    (decided_both (bits_decided _ _) (decided_both (bits_decided _ _) (bits_decided _ _)))

class_at_decided : (stage : Stage) (j : ℕ) → j < length stage.graph.streams → IsDecidable (AtStream stage (HasClassAt stage) j)
class_at_decided stage j lt =
    let (s, here) = some_at stage.graph.streams j lt in
    let b = have_least stage.streams in
    at_decided (HasClassAt stage j)
    (λ r. decided_as (class_of stage j s r here) (class_there stage j s r here)
    (has_class_decided b s r)) (slice_get stage.streams j)

pub class_either : (stage : Stage) → IsWellFormed stage → Either (EachStream stage (HasClassAt stage)) (IsStreamFault stage (HasClassAt stage))
class_either stage formed = stream_either stage (HasClassAt stage) (λ j lt. class_at_decided stage j (omega (arith, lt, formed.each_stream)))

shown_at_decided : (stage : Stage) (j : ℕ) → j < length stage.graph.streams → IsDecidable (AtStream stage (λ j r. IsCertified stage.graph j r.classified) j)
shown_at_decided stage j lt =
    let (s, here) = some_at stage.graph.streams j lt in
    at_decided (λ (r : StreamResult). IsCertified stage.graph j r.classified)
    (λ r. decided_as (λ shows. (s, here, shows))
    (λ (t, there, shows). subst (λ (u : Stream). Shows stage.graph j u r.classified.class r.classified.witness) (some_same (sym there ∙ here)) shows)
    (shows_decided stage.graph j s r.classified.class r.classified.witness)) (slice_get stage.streams j)

pub witness_either : (stage : Stage) → IsWellFormed stage → Either (EachStream stage (λ j r. IsCertified stage.graph j r.classified)) (IsStreamFault stage (λ j r. IsCertified stage.graph j r.classified))
witness_either stage formed =
    stream_either stage (λ j r. IsCertified stage.graph j r.classified) (λ j lt. shown_at_decided stage j (omega (arith, lt, formed.each_stream)))

-- ---- 3
pub balance_either : (stage : Stage) → IsWellFormed stage → Either (IsBalanced stage.graph (printed_flows stage)) (IsBalanceFault stage)
balance_either stage formed = elim (each_or_first (IsEvenAt stage) stage.graph.nodes (λ n lt. int_decided (net_of n stage.graph.streams (printed_flows stage)) (pos 0))) [
  | inl each ↦ inl (record { each = length-map stage.streams (λ (r : StreamResult). r.flow) ∙ formed.each_stream; even = each })
  | inr (n, first) ↦ inr (fault_at (Node n) (pos 0, net_of n stage.graph.streams (printed_flows stage)), (n, first, refl))
]

-- ---- 4
price_at_decided : (stage : Stage) (group : List ℕ) → ((n : ℕ) → n < stage.graph.nodes → IsDecidable (IsFreeGroup stage.graph n)) → (n : ℕ) → n < stage.graph.nodes
    → IsDecidable (HasGroupPriceAt stage n)
price_at_decided stage group free n lt =
    let (m, least) = some_least stage.graph n in
    decided_as (λ p. has_price stage n m least p.0 p.1) (λ has. (has.shared m least, has.fixed))
    (decided_both (int_decided (printed_price stage n) (printed_price stage m)) (decided_if (decided_not (free n lt)) (int_decided (printed_price stage n) (pos 0))))

pub price_either : (stage : Stage) → IsProcessGraph stage.graph → Either ((n : ℕ) → n < stage.graph.nodes → HasGroupPriceAt stage n) (IsPriceFault stage)
price_either stage limits =
    let (group, are) = some_groups_law stage.graph limits in
    let free : (n : ℕ) → n < stage.graph.nodes → IsDecidable (IsFreeGroup stage.graph n) =
    λ n lt. let law = free_law stage.graph group n limits are lt in decided_as law.0 law.1 (true_decided (is_free_group group stage.graph.streams (group_at group n))) in
    elim (each_or_first (HasGroupPriceAt stage) stage.graph.nodes (price_at_decided stage group free)) [
      | inl each ↦ inl each
      | inr (n, first) ↦ let (m, least) = some_least stage.graph n in inr (_, (n, m, first, least, refl))
    ]

-- ---- 5
if_decided : {A : Type 0} (P : A → Type 0) → ((x : A) → IsDecidable (P x)) → (o : Option A) → IsDecidable (IfSome o P)
if_decided P decided None = inl tt
if_decided P decided (Some x) = decided x

le_decided : (a b : ℕ) → IsDecidable (a ≤ b)
le_decided a b = elim (cases_lt b a) [ inl lt ↦ inr (λ le. omega (arith, lt, le)) | inr le ↦ inl le ]

-- what holds at each place of a list holds of each item
all_from : {A : Type 0} (P : A → Type 0) (xs : List A) → ((k : ℕ) → k < length xs → (x : A) → slice_get xs k ≡ Some x → P x) → All P xs
all_from P xs each = λ k d lt. each k lt (get_or xs k d) (slice_get-get_or xs k d lt)

-- a stream that isn't in the box is measured
box_meas : (price : ℕ → ℤ) (s : Stream) (o : Option Meas) → s.meas ≡ o → (IsInBox price s → ⊥) → (m : Meas) × (s.meas ≡ Some m)
box_meas price s None is out = absurd (out (subst (λ (o : Option Meas). IfSome o (λ meas. unsigned_abs (meas.variance *ℤ rise_of price s) ≤ most_adjustment)) (sym is) tt))
box_meas price s (Some m) is out = (m, is)

pub box_either : (stage : Stage) → Either (All (IsInBox (printed_price stage)) stage.graph.streams) (IsBoxFault stage)
box_either stage =
    let price = printed_price stage in
    let ss = stage.graph.streams in
    elim (each_or_fails (λ j. IsInBox price) ss
    (λ j lt. at_decided (IsInBox price) (λ s. if_decided (λ (meas : Meas). unsigned_abs (meas.variance *ℤ rise_of price s) ≤ most_adjustment) (λ m. le_decided _ _) s.meas) (slice_get ss j))) [
      | inl each ↦ inl (all_from (IsInBox price) ss (λ j lt s at. each j s at))
      | inr (j, s, first, at) ↦
          let (m, is) = box_meas price s s.meas refl (λ inside. first.without (λ t there. subst (IsInBox price) (some_same (sym at ∙ there)) inside)) in
          let fault = fault_at (Place.Stream j) (pos (unsigned_abs (rise_of price s)), room_of m.variance) in
          inr (fault, record { place = j; item = s; first = first; item_is = at; reported = some_and s.meas _ m is refl })
    ]

-- ---- 6
pub freedom_either : (stage : Stage) → IsProcessGraph stage.graph → (gap sweeps : ℕ) → Either (HasFreedom stage.graph.streams stage.dof) (Fails stage gap sweeps Freedom)
freedom_either stage limits gap sweeps =
    let (held, forest) = some_forest_law stage.graph.streams in
    let dof = degrees_of_freedom stage.graph.streams held in
    elim (cases_eq stage.dof dof) [
      | inl e ↦ inl (record { held = held; forest = forest; count = e })
      | inr ne ↦ inr (_, (dof, record { held = held; forest = forest; count = refl }, (ne, refl)))
    ]

-- ---- 7
abbrev gap_of_numbers : ℕ → ℕ → GapOf
gap_of_numbers g h = record { g = g; h = h }

pub gap_either : (stage : Stage) → (gap sweeps : ℕ) → Either (printed_gap stage ≡ found_gap stage) (Fails stage gap sweeps Gap)
gap_either stage gap sweeps = elim (cases_eq stage.h (found_gap stage).h) [
  | inl same_h ↦ elim (cases_eq stage.g (found_gap stage).g) [
    | inl same_g ↦ inl (ap₂ gap_of_numbers same_g same_h)
    | inr ne ↦ inr (_, (λ e. ne (ap (λ (gap : GapOf). gap.g) e), refl))
  ]
  | inr ne ↦ inr (_, (λ e. ne (ap (λ (gap : GapOf). gap.h) e), refl))
]

-- ---- 8
state_decided : (gap sweeps : ℕ) (printed : GapOf) (solved : Solved) → IsDecidable (IsStateAt gap sweeps printed solved)
state_decided gap sweeps printed (Converged k) = decided_both (le_decided _ _) (le_decided k sweeps)
state_decided gap sweeps printed (Unconverged k) = decided_both (decided_not (le_decided _ _)) (cases_eq k sweeps)

pub state_either : (stage : Stage) (gap sweeps : ℕ) → Either (IsStateAt gap sweeps (printed_gap stage) stage.solved) (Fails stage gap sweeps State)
state_either stage gap sweeps = elim (state_decided gap sweeps (printed_gap stage) stage.solved) [
  | inl state ↦ inl state
  | inr out ↦ inr (_, (out, refl))
]

-- ---- 9
abbrev bounds_of_ends : ℤ → ℤ → BoundsOf
bounds_of_ends lo hi = record { lo = lo; hi = hi }

bounds_decided : (a b : BoundsOf) → IsDecidable (a ≡ b)
bounds_decided a b =
    decided_as (λ p. ap₂ bounds_of_ends p.0 p.1) (λ e. (ap (λ (x : BoundsOf). x.lo) e, ap (λ (x : BoundsOf). x.hi) e))
    (decided_both (int_decided a.lo b.lo) (int_decided a.hi b.hi))

-- bounds that aren't those of the rule: there are bounds, and the rule has some
pub record AreOther (printed rule : Option BoundsOf) : Type 0 where
  pub stated : BoundsOf
  pub found : BoundsOf
  pub stated_is : printed ≡ Some stated
  pub found_is : rule ≡ Some found

other_of : (printed rule : Option BoundsOf) (b : Bool) → is_some printed ≡ b → is_some rule ≡ b → (printed ≡ rule → ⊥) → AreOther printed rule
other_of None None b here there ne = absurd (ne refl)
other_of None (Some y) b here there ne = cc (here, there)
other_of (Some x) None b here there ne = cc (here, there)
other_of (Some x) (Some y) b here there ne = record { stated = x; found = y; stated_is = refl; found_is = refl }

-- the first stream that has other bounds than the rule gives
differs_at : (stage : Stage) (stated : StreamResult → Option BoundsOf) (found : ℕ → StreamResult → Option BoundsOf) (j : ℕ) (r : StreamResult)
    → IsFirstWithout (λ k. (other : StreamResult) → slice_get stage.streams k ≡ Some other → stated other ≡ found k other) (length stage.streams) j
    → slice_get stage.streams j ≡ Some r → AreOther (stated r) (found j r) → (fault : Fault) × IsBoundsFault stage stated found fault
differs_at stage stated found j r first at other =
    let fault = fault_at (Place.Stream j) (first_differing other.stated.lo other.found.lo other.stated.hi other.found.hi) in (
      fault,
      record {
        place = j;
        item = r;
        first = first;
        item_is = at;
        reported = some_and (stated r) _ other.stated other.stated_is (some_and (found j r) _ other.found other.found_is refl);
      },
    )

ends_either : (stage : Stage) (stated : StreamResult → Option BoundsOf) (found : ℕ → StreamResult → Option BoundsOf)
    → ((j : ℕ) (r : StreamResult) → slice_get stage.streams j ≡ Some r → is_some (stated r) ≡ is_some (found j r))
    → Either (EachStream stage (λ j r. stated r ≡ found j r)) (IsBoundsFault stage stated found)
ends_either stage stated found both = elim (each_or_fails (λ j r. stated r ≡ found j r) stage.streams
    (λ j lt. at_decided (λ (r : StreamResult). stated r ≡ found j r) (λ r. option_decided bounds_decided _ _) (slice_get stage.streams j))) [
      | inl each ↦ inl each
      | inr (j, r, first, at) ↦
          let ne : stated r ≢ found j r = λ e. first.without (λ t there. subst (λ (u : StreamResult). stated u ≡ found j u) (some_same (sym at ∙ there)) e) in
          inr (differs_at stage stated found j r first at (other_of (stated r) (found j r) _ (both j r at) refl ne))
    ]

pub bounds_either : (stage : Stage) → EachStream stage (HasClassAt stage) → EachStream stage (λ j r. IsCertified stage.graph j r.classified)
    → Either (EachStream stage (λ j r. r.bounds ≡ found_bounds stage j r)) (IsBoundsFault stage (λ r. r.bounds) (found_bounds stage))
bounds_either stage classes shown = ends_either stage (λ r. r.bounds) (found_bounds stage) (λ j r at. result_bounded stage j r classes shown at)

-- ---- 10
pub statistic_either : (stage : Stage) (gap sweeps : ℕ) → Either (Passes stage gap sweeps Statistic) (Fails stage gap sweeps Statistic)
statistic_either stage gap sweeps = elim (decided_both (int_decided stage.low (found_low stage)) (option_decided int_decided stage.high (found_high stage))) [
  | inl p ↦ inl p
  | inr out ↦ inr (_, (out, refl))
]

-- ---- verdicts are five
abbrev verdict_number : VerdictOf → ℕ
verdict_number Reject = 0
verdict_number Accept = 1
verdict_number Undecided = 2
verdict_number NoCritical = 3
verdict_number NoTest = 4

abbrev verdict_with : ℕ → VerdictOf
verdict_with n = if n == 0 then Reject else (if n == 1 then Accept else (if n == 2 then Undecided else (if n == 3 then NoCritical else NoTest)))

is_verdict : (v : VerdictOf) → verdict_with (verdict_number v) ≡ v
is_verdict Reject = refl
is_verdict Accept = refl
is_verdict Undecided = refl
is_verdict NoCritical = refl
is_verdict NoTest = refl

verdict_decided : (a b : VerdictOf) → IsDecidable (a ≡ b)
verdict_decided a b = decided_as (λ e. sym (is_verdict a) ∙ ap verdict_with e ∙ is_verdict b) (ap verdict_number) (cases_eq (verdict_number a) (verdict_number b))

-- ---- 11
abbrev nodal_of : ℕ → ℤ → ℤ → Option ℤ → VerdictOf → NodalTest
nodal_of node net variance critical verdict = record { node = node; net = net; variance = variance; critical = critical; verdict = verdict }

same_test : (a b : NodalTest) → a.node ≡ b.node → a.net ≡ b.net → a.variance ≡ b.variance → a.critical ≡ b.critical → a.verdict ≡ b.verdict → a ≡ b
same_test a b node net variance critical verdict =
    ap (λ (n : ℕ). nodal_of n a.net a.variance a.critical a.verdict) node
    ∙ ap (λ (n : ℤ). nodal_of b.node n a.variance a.critical a.verdict) net
    ∙ ap (λ (v : ℤ). nodal_of b.node b.net v a.critical a.verdict) variance
    ∙ ap₂ (nodal_of b.node b.net b.variance) critical verdict

test_decided : (a b : NodalTest) → IsDecidable (a ≡ b)
test_decided a b =
    decided_as (λ p. same_test a b p.0 p.1.0 p.1.1.0 p.1.1.1.0 p.1.1.1.1)
    (λ e. (ap (λ (t : NodalTest). t.node) e, (ap (λ (t : NodalTest). t.net) e, (ap (λ (t : NodalTest). t.variance) e, (ap (λ (t : NodalTest). t.critical) e, ap (λ (t : NodalTest). t.verdict) e)))))
    (decided_both (cases_eq a.node b.node) (decided_both (int_decided a.net b.net) (decided_both (int_decided a.variance b.variance)
    (decided_both (option_decided int_decided a.critical b.critical) (verdict_decided a.verdict b.verdict)))))

rows_same : (rows rule : List NodalTest) → length rows ≡ length rule → ((i : ℕ) (row : NodalTest) → slice_get rows i ≡ Some row → slice_get rule i ≡ Some row) → rows ≡ rule
rows_same [] [] count each = refl
rows_same [] (t ∷ rule) count each = absurd (omega (arith, count))
rows_same (r ∷ rows) [] count each = absurd (omega (arith, count))
rows_same (r ∷ rows) (t ∷ rule) count each =
    ap₂ (λ x xs. x ∷ xs) (some_same (sym (each 0 r refl))) (rows_same rows rule (omega (arith, count)) (λ i row at. each (suc i) row at))

rows_either : (rows rule : List NodalTest) → Either (rows ≡ rule) (AreRowsFault rows rule)
rows_either rows rule = elim (cases_eq (length rows) (length rule)) [
  | inl count ↦ elim (each_or_fails (λ i row. slice_get rule i ≡ Some row) rows
      (λ i lt. at_decided (λ (row : NodalTest). slice_get rule i ≡ Some row) (λ row. option_decided test_decided _ _) (slice_get rows i))) [
        | inl each ↦ inl (rows_same rows rule count each)
        | inr (i, row, first, at) ↦
            let (test, there) = some_at rule i (omega (arith, first.within, count)) in
            let fault = fault_at (Node row.node) (row_numbers row test) in
            inr (fault, inr (count, record { place = i; item = row; first = first; item_is = at; reported = some_and (slice_get rule i) _ test there refl }))
      ]
  | inr ne ↦ inr (_, inl (ne, refl))
]

nodal_by : (stage : Stage) (rule : List NodalTest) → AreNodalTests stage.graph None rule → (o : Option Tests)
    → Either (IfSome o (AreNodalRows stage)) (λ fault. IsSomeAnd o (λ tests. IsNodalRowsFault stage tests fault))
nodal_by stage rule are None = inl tt
nodal_by stage rule are (Some tests) = elim (rows_either (map unjudged tests.nodal) rule) [
  | inl same ↦ inl (subst (AreNodalTests stage.graph None) (sym same) are)
  | inr (fault, says) ↦ inr (fault, (rule, are, says))
]

pub nodal_either : SomeNodalTestsLaw → (stage : Stage) → IsProcessGraph stage.graph → Either (IfSome stage.tests (AreNodalRows stage)) (λ fault. IsSomeAnd stage.tests (λ tests. IsNodalRowsFault stage tests fault))
nodal_either law stage limits = let (rule, are) = law stage.graph None limits in nodal_by stage rule are stage.tests

-- ---- 12
first_nodal_either : (rows : List NodalTest) → Either (All IsNodalVerdict rows) (IsFirstNodal rows)
first_nodal_either rows = elim (each_or_fails (λ i. IsNodalVerdict) rows (λ i lt. at_decided IsNodalVerdict (λ row. verdict_decided _ _) (slice_get rows i))) [
  | inl each ↦ inl (all_from IsNodalVerdict rows (λ i lt row at. each i row at))
  | inr (i, row, first, at) ↦ inr (bare_fault_at (Node row.node), record { place = i; item = row; first = first; item_is = at; reported = refl })
]

first_measure_either : (rows : List MeasureTest) → Either (All IsMeasureVerdict rows) (IsFirstMeasure rows)
first_measure_either rows = elim (each_or_fails (λ i. IsMeasureVerdict) rows (λ i lt. at_decided IsMeasureVerdict (λ row. verdict_decided _ _) (slice_get rows i))) [
  | inl each ↦ inl (all_from IsMeasureVerdict rows (λ i lt row at. each i row at))
  | inr (i, row, first, at) ↦ inr (bare_fault_at (Place.Stream row.stream), record { place = i; item = row; first = first; item_is = at; reported = refl })
]

verdicts_by : (stage : Stage) (tests : Tests) → Either (AreVerdicts stage tests) (AreVerdictsFault stage tests)
verdicts_by stage tests = elim (verdict_decided tests.global.verdict (global_verdict stage.low stage.high stage.dof tests.global.critical)) [
  | inl overall ↦ elim (first_nodal_either tests.nodal) [
    | inl nodal ↦ elim (first_measure_either tests.measure) [
      | inl measure ↦ inl (overall, nodal, measure)
      | inr (fault, first) ↦ inr (fault, inr (overall, inr (nodal, first)))
    ]
    | inr (fault, first) ↦ inr (fault, inr (overall, inl first))
  ]
  | inr out ↦ inr (bare_fault_at Whole, inl (out, refl))
]

judged_by : (stage : Stage) (o : Option Tests) → Either (IfSome o (AreVerdicts stage)) (λ fault. IsSomeAnd o (λ tests. AreVerdictsFault stage tests fault))
judged_by stage None = inl tt
judged_by stage (Some tests) = verdicts_by stage tests

pub verdict_either : (stage : Stage) → Either (IfSome stage.tests (AreVerdicts stage)) (λ fault. IsSomeAnd stage.tests (λ tests. AreVerdictsFault stage tests fault))
verdict_either stage = judged_by stage stage.tests

-- ---- 13
pub least_either : (stage : Stage) (gap sweeps : ℕ) → EachStream stage (HasClassAt stage) → EachStream stage (λ j r. IsCertified stage.graph j r.classified)
    → Either (Passes stage gap sweeps Least) (Fails stage gap sweeps Least)
least_either stage gap sweeps classes shown = elim (cases_Bool (have_least stage.streams)) [
  | inr none ↦ inl (λ have. cc (none, have))
  | inl have ↦ elim (ends_either stage (λ r. r.least) (found_least stage) (λ j r at. result_least_bounded stage j r have classes shown at)) [
    | inl each ↦ inl (λ have. each)
    | inr (fault, first) ↦ inr (fault, (have, first))
  ]
]
