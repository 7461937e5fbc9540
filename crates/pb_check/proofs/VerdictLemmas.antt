-- Each stage passes or has a first fault, at a place of the stage.
use Rattle.std.proofs.Common.{◌≡◌, ◌∙◌, ◌⊎◌, ℕ, ◌+◌, ℤ, pos, List, length, All, Option, Some, None, slice_get, refl, sym, ap, subst, inl, inr, arith}
use Rattle.std.specs.Prelude.{IfSome, IsSomeAnd}
use Rattle.pb_fixed.proofs.Lists.{all_each}
use Rattle.pb_study.specs.declared.results.Bounds.{Bounds as BoundsOf}
use Rattle.pb_study.specs.declared.results.NodalTest.{NodalTest}
use Rattle.pb_study.specs.declared.results.StreamResult.{StreamResult}
use Rattle.pb_study.specs.declared.results.Tests.{Tests}
use Rattle.pb_study.specs.declared.results.Stage.{Stage}
use Rattle.pb_study.specs.WellFormed.{IsNodalWithin, IsMeasureWithin, AreTestsWithin, IsWellFormed}
use Rattle.pb_stage.specs.Laws.{SomeNodalTestsLaw}
use Rattle.pb_check.specs.declared.faults.Test.{Test}
use Rattle.pb_check.specs.declared.faults.Test.TheVariants.{Class, Witness, Balance, Price, Box, Freedom, Gap, State, Bounds, Statistic, Nodal, Verdict, Least}
use Rattle.pb_check.specs.declared.faults.Fault.{Fault}
use Rattle.pb_check.specs.declared.faults.Place.TheVariants.{Node}
use Rattle.pb_check.specs.Faults.{AreVerdictsFault, IsBoundsFault, IsBoxFault, fault_at, row_numbers}
use Rattle.pb_check.specs.Places.{IsNodalRowsFault}
use Rattle.pb_check.specs.Verdict.{test_code, Passes, Fails, IsPlaceWithin}
use Rattle.pb_check.specs.VerdictLaws.{HasFault, SomeVerdictLaw, PlaceLaw}
use Rattle.pb_check.specs.Among.{IsAmong}
use Rattle.pb_check.proofs.AmongLemmas.{none_yet, passed, code_least, all_passed}
use Rattle.pb_check.proofs.PlaceLemmas.{of_some_and}
use Rattle.pb_check.proofs.RowLemmas.{row_of}
use Rattle.pb_check.proofs.SomeLemmas.{Either, class_either, witness_either, balance_either, price_either, box_either, freedom_either, gap_either, state_either, bounds_either, statistic_either, nodal_either, verdict_either, least_either}

-- ---- one more test
abbrev Outcome : Stage → ℕ → ℕ → ℕ → Type 0
Outcome stage gap sweeps n = IsAmong stage gap sweeps 1 n None ⊎ HasFault stage gap sweeps

step : (stage : Stage) (gap sweeps n : ℕ) (test : Test) → test_code test ≡ n + 1 → Outcome stage gap sweeps n
    → (IsAmong stage gap sweeps 1 n None → Either (Passes stage gap sweeps test) (Fails stage gap sweeps test)) → Outcome stage gap sweeps (n + 1)
step stage gap sweeps n test is before decide = elim before [
  | inr fault ↦ inr fault
  | inl among ↦ elim (decide among) [
    | inl passes ↦ inl (passed stage gap sweeps 1 n test is among passes)
    | inr (fault, fails) ↦ inr (record {
      test = test;
      place = fault.place;
      stated = fault.stated;
      found = fault.found;
      is = record { before = λ other less. among other (code_least other) (omega (arith, less, is)); fails = fails };
    })
  ]
]

pub some_verdict_by : SomeNodalTestsLaw → SomeVerdictLaw
some_verdict_by law stage gap sweeps limits formed =
    let start : Outcome stage gap sweeps 0 = inl (none_yet stage gap sweeps) in
    let one = step stage gap sweeps 0 Class refl start (λ among. class_either stage formed) in
    let two = step stage gap sweeps 1 Witness refl one (λ among. witness_either stage formed) in
    let three = step stage gap sweeps 2 Balance refl two (λ among. balance_either stage formed) in
    let four = step stage gap sweeps 3 Price refl three (λ among. price_either stage limits) in
    let five = step stage gap sweeps 4 Box refl four (λ among. box_either stage) in
    let six = step stage gap sweeps 5 Freedom refl five (λ among. freedom_either stage limits gap sweeps) in
    let seven = step stage gap sweeps 6 Gap refl six (λ among. gap_either stage gap sweeps) in
    let eight = step stage gap sweeps 7 State refl seven (λ among. state_either stage gap sweeps) in
    let nine = step stage gap sweeps 8 Bounds refl eight (λ among. bounds_either stage (among Class (omega arith) (omega arith)) (among Witness (omega arith) (omega arith))) in
    let ten = step stage gap sweeps 9 Statistic refl nine (λ among. statistic_either stage gap sweeps) in
    let eleven = step stage gap sweeps 10 Nodal refl ten (λ among. nodal_either law stage limits) in
    let twelve = step stage gap sweeps 11 Verdict refl eleven (λ among. verdict_either stage) in
    let thirteen = step stage gap sweeps 12 Least refl twelve (λ among. least_either stage gap sweeps (among Class (omega arith) (omega arith)) (among Witness (omega arith) (omega arith))) in
    elim thirteen [ inl among ↦ inl (all_passed stage gap sweeps among) | inr fault ↦ inr fault ]

-- ---- places
within_by : (stage : Stage) (a b : Fault) → a ≡ b → IsPlaceWithin stage b.place → IsPlaceWithin stage a.place
within_by stage a b is within = subst (λ (f : Fault). IsPlaceWithin stage f.place) (sym is) within

node_within : (stage : Stage) (rows : List NodalTest) (fault : Fault) (place : ℕ) (row : NodalTest) (numbers : ℤ × ℤ) → All (IsNodalWithin stage.graph) rows
    → slice_get rows place ≡ Some row → fault ≡ fault_at (Node row.node) numbers → IsPlaceWithin stage fault.place
node_within stage rows fault place row numbers formed at is = within_by stage fault _ is (all_each (IsNodalWithin stage.graph) rows formed place row at).node

rows_within : (stage : Stage) (o : Option Tests) (fault : Fault) → IfSome o (AreTestsWithin stage.graph) → IsSomeAnd o (λ tests. IsNodalRowsFault stage tests fault)
    → IsPlaceWithin stage fault.place
rows_within stage None fault formed fails = absurd fails
rows_within stage (Some tests) fault formed (rule, are, inl count) = within_by stage fault _ count.1 tt
rows_within stage (Some tests) fault formed (rule, are, inr (count, row)) =
    let (test, there, is) = of_some_and (slice_get rule row.place) _ row.reported in
    let (whole, at, same) = row_of tests.nodal row.place row.item row.item_is in
    node_within stage tests.nodal fault row.place whole (row_numbers row.item test) formed.nodal at
    (is ∙ ap (λ (n : ℕ). fault_at (Node n) (row_numbers row.item test)) (sym (ap (λ (r : NodalTest). r.node) same)))

verdicts_within : (stage : Stage) (o : Option Tests) (fault : Fault) → length stage.streams ≡ length stage.graph.streams → IfSome o (AreTestsWithin stage.graph)
    → IsSomeAnd o (λ tests. AreVerdictsFault stage tests fault)
    → IsPlaceWithin stage fault.place
verdicts_within stage None fault each formed fails = absurd fails
verdicts_within stage (Some tests) fault each formed (inl whole) = within_by stage fault _ whole.1 tt
verdicts_within stage (Some tests) fault each formed (inr (overall, inl nodal)) =
    node_within stage tests.nodal fault nodal.place nodal.item (pos 0, pos 0) formed.nodal nodal.item_is nodal.reported
verdicts_within stage (Some tests) fault each formed (inr (overall, inr (all, measure))) =
    within_by stage fault _ measure.reported (omega (arith, each, (all_each (IsMeasureWithin stage.graph) tests.measure formed.measure measure.place measure.item measure.item_is).stream))

bounds_within : (stage : Stage) (stated : StreamResult → Option BoundsOf) (found : ℕ → StreamResult → Option BoundsOf) (fault : Fault) → IsBoundsFault stage stated found fault
    → IsPlaceWithin stage fault.place
bounds_within stage stated found fault fails =
    let (here, stated_is, says) = of_some_and (stated fails.item) _ fails.reported in
    let (there, found_is, is) = of_some_and (found fails.place fails.item) _ says in
    within_by stage fault _ is fails.first.within

box_within : (stage : Stage) (fault : Fault) → IsWellFormed stage → IsBoxFault stage fault → IsPlaceWithin stage fault.place
box_within stage fault formed fails =
    let (m, meas_is, is) = of_some_and fails.item.meas _ fails.reported in
    within_by stage fault _ is (omega (arith, fails.first.within, formed.each_stream))

pub place_of : (stage : Stage) (gap sweeps : ℕ) (test : Test) (fault : Fault) → IsWellFormed stage → Fails stage gap sweeps test fault → IsPlaceWithin stage fault.place
place_of stage gap sweeps Class fault formed fails = within_by stage fault _ fails.reported fails.first.within
place_of stage gap sweeps Witness fault formed fails = within_by stage fault _ fails.reported fails.first.within
place_of stage gap sweeps Balance fault formed (node, first, is) = within_by stage fault _ is first.within
place_of stage gap sweeps Price fault formed fails = within_by stage fault _ fails.4 fails.2.within
place_of stage gap sweeps Box fault formed fails = box_within stage fault formed fails
place_of stage gap sweeps Freedom fault formed (dof, has, fails) = within_by stage fault _ fails.1 tt
place_of stage gap sweeps Gap fault formed fails = within_by stage fault _ fails.1 tt
place_of stage gap sweeps State fault formed fails = within_by stage fault _ fails.1 tt
place_of stage gap sweeps Bounds fault formed fails = bounds_within stage _ _ fault fails
place_of stage gap sweeps Statistic fault formed fails = within_by stage fault _ fails.1 tt
place_of stage gap sweeps Nodal fault formed fails = rows_within stage stage.tests fault formed.tests fails
place_of stage gap sweeps Verdict fault formed fails = verdicts_within stage stage.tests fault formed.each_stream formed.tests fails
place_of stage gap sweeps Least fault formed (have, fails) = bounds_within stage _ _ fault fails

pub place_law : PlaceLaw
place_law stage gap sweeps formed fault =
    place_of stage gap sweeps fault.test (record { place = fault.place; stated = fault.stated; found = fault.found }) formed fault.is.fails
