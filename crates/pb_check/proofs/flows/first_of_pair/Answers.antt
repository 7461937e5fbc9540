use Rattle.std.proofs.Common.{Option, Some, None, refl, subst, inl, inr, arith}
use Rattle.std.specs.Prelude.{MatchOption, ◌≡◌}
use Rattle.std.proofs.lemmas.Bool.{cases_lt}
use Rattle.pb_stage.specs.Printed.{EachStream, HasLeastBounds}
use Rattle.pb_stage.specs.Certified.{found_least}
use Rattle.pb_check.specs.declared.faults.Fault.{Fault}
use Rattle.pb_check.specs.Places.{IsLeastFault}
use Rattle.pb_check.specs.Verdict.{test_code}
use Rattle.pb_check.specs.Among.{IsAmong}
use Rattle.pb_check.specs.declared.faults.Test.TheVariants.{Class, Witness, Least}
use Rattle.pb_check.proofs.AmongLemmas.{failed, joined, longer, passed}
use Rattle.pb_check.proofs.RowLemmas.{some_there}
use Rattle.pb_check.proofs.flows.first_of_pair.Goals as goal

-- one of the tests 7 to 10 fails
pub returns-in-Some : goal.returns-in-Some
returns-in-Some c =
    let stage = c.args.stage.now in
    let gap = c.args.gap in
    let sweeps = c.args.sweeps in
    let among : IsAmong stage gap sweeps 7 10 (Some c.in-Some.first) = subst (IsAmong stage gap sweeps 7 10) c.in-Some.is c.in_ok-first.ensures in
    longer stage gap sweeps 7 10 13 c.in-Some.first (omega arith) among

pub first_of_tests-requires-clause-earlier : goal.first_of_tests-requires-clause-earlier
first_of_tests-requires-clause-earlier c =
    let stage = c.args.stage.now in
    let gap = c.args.gap in
    let sweeps = c.args.sweeps in
    let four : IsAmong stage gap sweeps 7 10 None = subst (IsAmong stage gap sweeps 7 10) c.in_default.is c.in_ok-first.ensures in
    λ test less. elim (cases_lt (test_code test) 7) [
      | inl early ↦ c.requires.earlier test early
      | inr past ↦ four test past (omega (arith, less))
    ]

-- one of the tests 11 and 12 fails
pub returns-in-Some-2 : goal.returns-in-Some-2
returns-in-Some-2 c =
    let stage = c.args.stage.now in
    let gap = c.args.gap in
    let sweeps = c.args.sweeps in
    let first = c.in-Some-2.first in
    let four : IsAmong stage gap sweeps 7 10 None = subst (IsAmong stage gap sweeps 7 10) c.in_default.is c.in_ok-first.ensures in
    let among : IsAmong stage gap sweeps 11 12 (Some first) = subst (IsAmong stage gap sweeps 11 12) c.in-Some-2.is c.in_ok-first-2.ensures in
    longer stage gap sweeps 7 12 13 first (omega arith) (joined stage gap sweeps 7 10 12 (Some first) (omega arith) (omega arith) four among)

pub least_fault-requires-clause-classes : goal.least_fault-requires-clause-classes
least_fault-requires-clause-classes c = c.requires.earlier Class (omega arith)

pub least_fault-requires-clause-shown : goal.least_fault-requires-clause-shown
least_fault-requires-clause-shown c = c.requires.earlier Witness (omega arith)

-- test 13 fails
pub returns-in-Some-3 : goal.returns-in-Some-3
returns-in-Some-3 c =
    let stage = c.args.stage.now in
    let gap = c.args.gap in
    let sweeps = c.args.sweeps in
    let four : IsAmong stage gap sweeps 7 10 None = subst (IsAmong stage gap sweeps 7 10) c.in_default.is c.in_ok-first.ensures in
    let two : IsAmong stage gap sweeps 11 12 None = subst (IsAmong stage gap sweeps 11 12) c.in_default-2.is c.in_ok-first-2.ensures in
    let six : IsAmong stage gap sweeps 7 12 None = joined stage gap sweeps 7 10 12 None (omega arith) (omega arith) four two in
    failed stage gap sweeps 7 12 13 Least c.in-Some-3.fault refl (omega arith) (omega arith) six
    (some_there _ c.in-Some-3.fault (HasLeastBounds stage → EachStream stage (λ j r. r.least ≡ found_least stage j r)) (IsLeastFault stage) c.in-Some-3.is c.in_ok-fault.ensures)

-- no test fails
pub returns-in-None : goal.returns-in-None
returns-in-None c =
    let stage = c.args.stage.now in
    let gap = c.args.gap in
    let sweeps = c.args.sweeps in
    let four : IsAmong stage gap sweeps 7 10 None = subst (IsAmong stage gap sweeps 7 10) c.in_default.is c.in_ok-first.ensures in
    let two : IsAmong stage gap sweeps 11 12 None = subst (IsAmong stage gap sweeps 11 12) c.in_default-2.is c.in_ok-first-2.ensures in
    let six : IsAmong stage gap sweeps 7 12 None = joined stage gap sweeps 7 10 12 None (omega arith) (omega arith) four two in
    passed stage gap sweeps 7 12 Least refl six (subst (λ (o : Option Fault). MatchOption o (HasLeastBounds stage → EachStream stage (λ j r. r.least ≡ found_least stage j r)) (IsLeastFault stage)) c.in-None.is c.in_ok-fault.ensures)
