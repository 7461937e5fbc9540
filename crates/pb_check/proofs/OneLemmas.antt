-- No stage passes a test and fails it, and no test fails in two ways.
use Rattle.std.proofs.Common.{◌≡◌, ◌∙◌, ℕ, ◌<◌, pos, List, length, map, All, Option, Some, None, slice_get, sym, ap, ap₂, subst, inl, inr, arith}
use Rattle.std.specs.Prelude.{IfSome, IsSomeAnd, unsigned_abs}
use Rattle.std.proofs.lemmas.Bool.{cases_lt}
use Rattle.pb_fixed.proofs.Lists.{some_same, all_each}
use Rattle.pb_graph.specs.declared.records.Meas.{Meas}
use Rattle.pb_graph.specs.declared.records.Stream.{Stream}
use Rattle.pb_study.specs.declared.results.Bounds.{Bounds as BoundsOf}
use Rattle.pb_study.specs.declared.results.NodalTest.{NodalTest}
use Rattle.pb_study.specs.declared.results.MeasureTest.{MeasureTest}
use Rattle.pb_study.specs.declared.results.StreamResult.{StreamResult}
use Rattle.pb_study.specs.declared.results.Tests.{Tests}
use Rattle.pb_study.specs.declared.results.Stage.{Stage}
use Rattle.pb_graph.specs.ProcessGraph.{ProcessGraph}
use Rattle.pb_forest.proofs.ForestLaws.{one_forest_law}
use Rattle.pb_forest.specs.Forest.{degrees_of_freedom}
use Rattle.pb_stage.specs.Laws.{OneNodalTestsLaw}
use Rattle.pb_graph.specs.Balance.{net_of}
use Rattle.pb_graph.specs.Prices.{IsInBox, rise_of}
use Rattle.pb_dual.specs.Candidates.{room_of}
use Rattle.pb_stage.specs.Printed.{printed_price, printed_flows}
use Rattle.pb_stage.specs.Freedom.{HasFreedom}
use Rattle.pb_stage.specs.Certified.{IsMeasureVerdict, IsNodalVerdict, unjudged}
use Rattle.pb_check.specs.declared.faults.Test.{Test}
use Rattle.pb_check.specs.declared.faults.Test.TheVariants.{Class, Witness, Balance, Price, Box, Freedom, Gap, State, Bounds, Statistic, Nodal, Verdict, Least}
use Rattle.pb_check.specs.declared.faults.Place.TheVariants.{Node, Whole}
use Rattle.pb_check.specs.declared.faults.Place.{Place}
use Rattle.pb_check.specs.declared.faults.Fault.{Fault}
use Rattle.pb_check.specs.Asked.{HasGroupPriceAt, IsLeastOfGroup}
use Rattle.pb_check.specs.Faults.{bare_fault_at, fault_at, first_differing, row_numbers, AreRowsFault, AreVerdictsFault, IsBoundsFault, IsBoxFault, IsPriceFault}
use Rattle.pb_check.specs.Places.{AreNodalRows, AreVerdicts, IsBalanceFault, IsEvenAt, IsFirstMeasure, IsFirstNodal, IsNodalRowsFault, IsStreamFault}
use Rattle.pb_check.specs.Verdict.{test_code, Passes, Fails}
use Rattle.pb_check.specs.VerdictLaws.{HasFault, NotBothLaw, OneFaultLaw}
use Rattle.pb_check.proofs.DecideLemmas.{one_first}
use Rattle.pb_check.proofs.GroupLemmas.{one_least}
use Rattle.pb_check.proofs.PlaceLemmas.{none_fails, of_some_and, same_first}
use Rattle.pb_check.proofs.AmongLemmas.{same_code}

-- ---- the fault of each test, by the place of failure
abbrev balance_at : Stage → ℕ → Fault
balance_at stage n = fault_at (Node n) (pos 0, net_of n stage.graph.streams (printed_flows stage))

abbrev price_at : Stage → ℕ → ℕ → Fault
price_at stage n m = fault_at (Node n) (first_differing (printed_price stage n) (printed_price stage m) (printed_price stage n) (pos 0))

abbrev box_at : Stage → ℕ → Stream → Meas → Fault
box_at stage j s m = fault_at (Place.Stream j) (pos (unsigned_abs (rise_of (printed_price stage) s)), room_of m.variance)

abbrev freedom_at : Stage → ℕ → Fault
freedom_at stage dof = fault_at Whole (pos stage.dof, pos dof)

abbrev bounds_at : ℕ → BoundsOf → BoundsOf → Fault
bounds_at j stated found = fault_at (Place.Stream j) (first_differing stated.lo found.lo stated.hi found.hi)

abbrev row_at : NodalTest → NodalTest → Fault
row_at row test = fault_at (Node row.node) (row_numbers row test)

-- ---- not both, test by test
-- the degrees of freedom of a graph are one number
one_freedom : (graph : ProcessGraph) (one other : ℕ) → HasFreedom graph.streams one → HasFreedom graph.streams other → one ≡ other
one_freedom graph one other has also =
    has.count ∙ ap (degrees_of_freedom graph.streams) (one_forest_law graph.streams has.held also.held has.forest also.forest) ∙ sym also.count

-- rows that are the tests have no first that isn't
no_row_fault : (rows rule : List NodalTest) (fault : Fault) → rows ≡ rule → AreRowsFault rows rule fault → ⊥
no_row_fault rows rule fault same (inl count) = count.0 (ap length same)
no_row_fault rows rule fault same (inr (count, row)) = none_fails _ rows _ row (λ k x at. ap (λ (xs : List NodalTest). slice_get xs k) (sym same) ∙ at)

no_nodal_fault : OneNodalTestsLaw → (stage : Stage) (o : Option Tests) (fault : Fault) → IfSome o (AreNodalRows stage)
    → IsSomeAnd o (λ tests. IsNodalRowsFault stage tests fault) → ⊥
no_nodal_fault law stage None fault passes fails = fails
no_nodal_fault law stage (Some tests) fault passes (rule, are, says) =
    no_row_fault (map unjudged tests.nodal) rule fault (law stage.graph None (map unjudged tests.nodal) rule passes are) says

-- if each verdict follows, there is no first that doesn't
no_nodal_verdict : (rows : List NodalTest) (fault : Fault) → All IsNodalVerdict rows → IsFirstNodal rows fault → ⊥
no_nodal_verdict rows fault each fails = none_fails _ rows _ fails (λ k x at. all_each IsNodalVerdict rows each k x at)

no_measure_verdict : (rows : List MeasureTest) (fault : Fault) → All IsMeasureVerdict rows → IsFirstMeasure rows fault → ⊥
no_measure_verdict rows fault each fails = none_fails _ rows _ fails (λ k x at. all_each IsMeasureVerdict rows each k x at)

no_verdict_fault : (stage : Stage) (o : Option Tests) (fault : Fault) → IfSome o (AreVerdicts stage)
    → IsSomeAnd o (λ tests. AreVerdictsFault stage tests fault) → ⊥
no_verdict_fault stage None fault passes fails = fails
no_verdict_fault stage (Some tests) fault passes (inl whole) = whole.0 passes.0
no_verdict_fault stage (Some tests) fault passes (inr (overall, inl nodal)) = no_nodal_verdict tests.nodal fault passes.1 nodal
no_verdict_fault stage (Some tests) fault passes (inr (overall, inr (each, measure))) = no_measure_verdict tests.measure fault passes.2 measure

pub not_both_of : OneNodalTestsLaw → (stage : Stage) (gap sweeps : ℕ) (test : Test) (fault : Fault) → Passes stage gap sweeps test
    → Fails stage gap sweeps test fault → ⊥
not_both_of law stage gap sweeps Class fault passes fails = none_fails _ stage.streams _ fails passes
not_both_of law stage gap sweeps Witness fault passes fails = none_fails _ stage.streams _ fails passes
not_both_of law stage gap sweeps Balance fault passes (node, first, is) = first.without (passes.even node first.within)
not_both_of law stage gap sweeps Price fault passes fails = fails.2.without (passes fails.0 fails.2.within)
not_both_of law stage gap sweeps Box fault passes fails =
    none_fails _ stage.graph.streams _ fails (λ j s at. all_each (IsInBox (printed_price stage)) stage.graph.streams passes j s at)
not_both_of law stage gap sweeps Freedom fault passes (dof, has, fails) = fails.0 (one_freedom stage.graph stage.dof dof passes has)
not_both_of law stage gap sweeps Gap fault passes fails = fails.0 passes
not_both_of law stage gap sweeps State fault passes fails = fails.0 passes
not_both_of law stage gap sweeps Bounds fault passes fails = none_fails _ stage.streams _ fails passes
not_both_of law stage gap sweeps Statistic fault passes fails = fails.0 passes
not_both_of law stage gap sweeps Nodal fault passes fails = no_nodal_fault law stage stage.tests fault passes fails
not_both_of law stage gap sweeps Verdict fault passes fails = no_verdict_fault stage stage.tests fault passes fails
not_both_of law stage gap sweeps Least fault passes (have, fails) = none_fails _ stage.streams _ fails (passes have)

pub not_both_by : OneNodalTestsLaw → NotBothLaw
not_both_by law stage gap sweeps limits formed passed fault =
    not_both_of law stage gap sweeps fault.test (record { place = fault.place; stated = fault.stated; found = fault.found }) (passed fault.test) fault.is.fails

-- ---- not two, test by test
stream_one : (stage : Stage) (P : ℕ → StreamResult → Type 0) (a b : Fault) → IsStreamFault stage P a → IsStreamFault stage P b → a ≡ b
stream_one stage P a b one other =
    let same = same_first P stage.streams _ _ one other in
    one.reported ∙ ap (λ (j : ℕ). bare_fault_at (Place.Stream j)) same.0 ∙ sym other.reported

balance_one : (stage : Stage) (a b : Fault) → IsBalanceFault stage a → IsBalanceFault stage b → a ≡ b
balance_one stage a b (n, first, is) (m, also, says) =
    is ∙ ap (balance_at stage) (one_first (IsEvenAt stage) stage.graph.nodes n m first also) ∙ sym says

price_one : (stage : Stage) (a b : Fault) → IsPriceFault stage a → IsPriceFault stage b → a ≡ b
price_one stage a b one other =
    let same = one_first (HasGroupPriceAt stage) stage.graph.nodes one.0 other.0 one.2 other.2 in
    let least = one_least stage.graph other.0 one.1 other.1 (subst (λ (n : ℕ). IsLeastOfGroup stage.graph n one.1) same one.3) other.3 in
    one.4 ∙ ap₂ (price_at stage) same least ∙ sym other.4

box_one : (stage : Stage) (a b : Fault) → IsBoxFault stage a → IsBoxFault stage b → a ≡ b
box_one stage a b one other =
    let same = same_first _ stage.graph.streams _ _ one other in
    let (m, is, says) = of_some_and one.item.meas _ one.reported in
    let (n, also, tells) = of_some_and other.item.meas _ other.reported in
    let meas : m ≡ n = some_same (sym is ∙ ap (λ (s : Stream). s.meas) same.1 ∙ also) in
    says ∙ ap (λ (j : ℕ). box_at stage j one.item m) same.0 ∙ ap₂ (box_at stage other.place) same.1 meas ∙ sym tells

freedom_one : (stage : Stage) (gap sweeps : ℕ) (a b : Fault) → Fails stage gap sweeps Freedom a → Fails stage gap sweeps Freedom b → a ≡ b
freedom_one stage gap sweeps a b (dof, has, fails) (other, also, says) =
    fails.1 ∙ ap (freedom_at stage) (one_freedom stage.graph dof other has also) ∙ sym says.1

-- two bounds of one stream differ in one way
abbrev BoundsFaultAt : ℕ → Option BoundsOf → Option BoundsOf → Fault → Type 0
BoundsFaultAt j stated found fault = IsSomeAnd stated (λ here. IsSomeAnd found (λ there. fault ≡ bounds_at j here there))

differ_one : (j k : ℕ) (stated other : Option BoundsOf) (found also : Option BoundsOf) (a b : Fault) → j ≡ k → stated ≡ other → found ≡ also
    → BoundsFaultAt j stated found a → BoundsFaultAt k other also b → a ≡ b
differ_one j k stated other found also a b place same_stated same_found x y =
    let (here, stated_is, says) = of_some_and stated _ x in
    let (there, found_is, is) = of_some_and found _ says in
    let (near, other_is, tells) = of_some_and other _ y in
    let (far, also_is, has) = of_some_and also _ tells in
    let same_here : here ≡ near = some_same (sym stated_is ∙ same_stated ∙ other_is) in
    let same_there : there ≡ far = some_same (sym found_is ∙ same_found ∙ also_is) in
    is ∙ ap (λ (i : ℕ). bounds_at i here there) place ∙ ap₂ (bounds_at k) same_here same_there ∙ sym has

bounds_one : (stage : Stage) (stated : StreamResult → Option BoundsOf) (found : ℕ → StreamResult → Option BoundsOf) (a b : Fault)
    → IsBoundsFault stage stated found a → IsBoundsFault stage stated found b → a ≡ b
bounds_one stage stated found a b one other =
    let same = same_first _ stage.streams _ _ one other in
    differ_one one.place other.place _ _ _ _ a b same.0 (ap stated same.1) (ap₂ found same.0 same.1) one.reported other.reported

-- rows
rows_one : (rows rule : List NodalTest) (a b : Fault) → AreRowsFault rows rule a → AreRowsFault rows rule b → a ≡ b
rows_one rows rule a b (inl one) (inl other) = one.1 ∙ sym other.1
rows_one rows rule a b (inl one) (inr (count, other)) = absurd (one.0 count)
rows_one rows rule a b (inr (count, one)) (inl other) = absurd (other.0 count)
rows_one rows rule a b (inr (count, one)) (inr (also, other)) =
    let same = same_first _ rows _ _ one other in
    let (t, is, says) = of_some_and (slice_get rule one.place) _ one.reported in
    let (u, has, tells) = of_some_and (slice_get rule other.place) _ other.reported in
    let test : t ≡ u = some_same (sym is ∙ ap (slice_get rule) same.0 ∙ has) in
    says ∙ ap₂ row_at same.1 test ∙ sym tells

nodal_one : OneNodalTestsLaw → (stage : Stage) (o : Option Tests) (a b : Fault) → IsSomeAnd o (λ tests. IsNodalRowsFault stage tests a)
    → IsSomeAnd o (λ tests. IsNodalRowsFault stage tests b) → a ≡ b
nodal_one law stage None a b one other = absurd one
nodal_one law stage (Some tests) a b (rule, are, says) (also, has, tells) =
    let same : rule ≡ also = law stage.graph None rule also are has in
    rows_one (map unjudged tests.nodal) also a b (subst (λ (rule : List NodalTest). AreRowsFault (map unjudged tests.nodal) rule a) same says) tells

-- verdicts
nodal_verdict_one : (rows : List NodalTest) (a b : Fault) → IsFirstNodal rows a → IsFirstNodal rows b → a ≡ b
nodal_verdict_one rows a b one other =
    one.reported ∙ ap (λ (r : NodalTest). bare_fault_at (Node r.node)) (same_first _ rows _ _ one other).1 ∙ sym other.reported

measure_verdict_one : (rows : List MeasureTest) (a b : Fault) → IsFirstMeasure rows a → IsFirstMeasure rows b → a ≡ b
measure_verdict_one rows a b one other =
    one.reported ∙ ap (λ (r : MeasureTest). bare_fault_at (Place.Stream r.stream)) (same_first _ rows _ _ one other).1 ∙ sym other.reported

judged_one : (stage : Stage) (tests : Tests) (a b : Fault) → AreVerdictsFault stage tests a → AreVerdictsFault stage tests b → a ≡ b
judged_one stage tests a b (inl one) (inl other) = one.1 ∙ sym other.1
judged_one stage tests a b (inl one) (inr (overall, other)) = absurd (one.0 overall)
judged_one stage tests a b (inr (overall, one)) (inl other) = absurd (other.0 overall)
judged_one stage tests a b (inr (overall, inl one)) (inr (also, inl other)) = nodal_verdict_one tests.nodal a b one other
judged_one stage tests a b (inr (overall, inl one)) (inr (also, inr (each, other))) = absurd (no_nodal_verdict tests.nodal a each one)
judged_one stage tests a b (inr (overall, inr (each, one))) (inr (also, inl other)) = absurd (no_nodal_verdict tests.nodal b each other)
judged_one stage tests a b (inr (overall, inr (each, one))) (inr (also, inr (all, other))) = measure_verdict_one tests.measure a b one other

verdict_one : (stage : Stage) (o : Option Tests) (a b : Fault) → IsSomeAnd o (λ tests. AreVerdictsFault stage tests a) → IsSomeAnd o (λ tests. AreVerdictsFault stage tests b) → a ≡ b
verdict_one stage None a b one other = absurd one
verdict_one stage (Some tests) a b one other = judged_one stage tests a b one other

one_of : OneNodalTestsLaw → (stage : Stage) (gap sweeps : ℕ) (test : Test) (a b : Fault) → Fails stage gap sweeps test a → Fails stage gap sweeps test b → a ≡ b
one_of law stage gap sweeps Class a b one other = stream_one stage _ a b one other
one_of law stage gap sweeps Witness a b one other = stream_one stage _ a b one other
one_of law stage gap sweeps Balance a b one other = balance_one stage a b one other
one_of law stage gap sweeps Price a b one other = price_one stage a b one other
one_of law stage gap sweeps Box a b one other = box_one stage a b one other
one_of law stage gap sweeps Freedom a b one other = freedom_one stage gap sweeps a b one other
one_of law stage gap sweeps Gap a b one other = one.1 ∙ sym other.1
one_of law stage gap sweeps State a b one other = one.1 ∙ sym other.1
one_of law stage gap sweeps Bounds a b one other = bounds_one stage _ _ a b one other
one_of law stage gap sweeps Statistic a b one other = one.1 ∙ sym other.1
one_of law stage gap sweeps Nodal a b one other = nodal_one law stage stage.tests a b one other
one_of law stage gap sweeps Verdict a b one other = verdict_one stage stage.tests a b one other
one_of law stage gap sweeps Least a b (have, one) (also, other) = bounds_one stage _ _ a b one other

-- of two first faults neither test comes before the other
abbrev fault_of : {stage : Stage} {gap sweeps : ℕ} → HasFault stage gap sweeps → Fault
fault_of h = record { place = h.place; stated = h.stated; found = h.found }

no_earlier : OneNodalTestsLaw → (stage : Stage) (gap sweeps : ℕ) (one other : HasFault stage gap sweeps) → test_code one.test < test_code other.test → ⊥
no_earlier law stage gap sweeps one other less = not_both_of law stage gap sweeps one.test (fault_of one) (other.is.before one.test less) one.is.fails

pub one_fault_by : OneNodalTestsLaw → OneFaultLaw
one_fault_by law stage gap sweeps one other limits formed =
    let test : one.test ≡ other.test = elim (cases_lt (test_code one.test) (test_code other.test)) [
      | inl less ↦ absurd (no_earlier law stage gap sweeps one other less)
      | inr past ↦ elim (cases_lt (test_code other.test) (test_code one.test)) [
        | inl less ↦ absurd (no_earlier law stage gap sweeps other one less)
        | inr le ↦ same_code one.test other.test (omega (arith, past, le))
      ]
    ] in
    let same = one_of law stage gap sweeps other.test (fault_of one) (fault_of other)
    (subst (λ (t : Test). Fails stage gap sweeps t (fault_of one)) test one.is.fails) other.is.fails in
    (test, ap (λ (f : Fault). f.place) same, ap (λ (f : Fault). f.stated) same, ap (λ (f : Fault). f.found) same)
