-- Statement. The verdict on a stage: it passes all tests, or there is a first one that it fails.
use Rattle.std.specs.Prelude.{◌≡◌, ℕ, ℤ, pos, negsuc, ◌<◌, List, length, map, None, All, IfSome, IsSomeAnd, unwrap_or}
use Rattle.pb_graph.specs.Balance.{IsBalanced, net_of}
use Rattle.pb_graph.specs.Certificates.{IsCertified}
use Rattle.pb_graph.specs.Prices.{IsInBox}
use Rattle.pb_study.specs.declared.results.NodalTest.{NodalTest}
use Rattle.pb_study.specs.declared.results.Stage.{Stage}
use Rattle.pb_study.specs.WellFormed.{sweeps_of}
use Rattle.pb_stage.specs.Certified.{IsMeasureVerdict, IsNodalVerdict, found_bounds, found_least, unjudged}
use Rattle.pb_stage.specs.Freedom.{HasFreedom}
use Rattle.pb_stage.specs.Nodal.{AreNodalTests}
use Rattle.pb_stage.specs.Printed.{EachStream, HasLeastBounds, printed_flows, printed_gap, printed_price}
use Rattle.pb_check.specs.declared.faults.Test.{Test}
use Rattle.pb_check.specs.declared.faults.Test.TheVariants.{Class, Witness, Balance, Price, Box, Freedom, Gap, State, Bounds, Statistic, Nodal, Verdict, Least}
use Rattle.pb_check.specs.declared.faults.Place.{Place}
use Rattle.pb_check.specs.declared.faults.Place.TheVariants.{Node, Stream, Whole}
use Rattle.pb_check.specs.declared.faults.CheckFault.{CheckFault}
use Rattle.pb_check.specs.declared.faults.CheckFault.TheVariants.{At, NoMemory}
use Rattle.pb_check.specs.declared.faults.Fault.{Fault}
use Rattle.pb_check.specs.First.{FirstFails, IsFirstWithout}
use Rattle.pb_check.specs.Asked.{HasClassAt, HasGroupPriceAt, IsGlobalVerdict, IsStateAt, found_gap, found_high, found_low}
use Rattle.pb_check.specs.Faults.{AreRowsFault, AreVerdictsFault, IsBoundsFault, IsBoxFault, IsPriceFault, IsWholeFault, bare_fault_at, fault_at, first_differing}

-- the number of a test, from 1; the tests are made in this order
abbrev pub test_code : Test → ℕ
test_code Class = 1
test_code Witness = 2
test_code Balance = 3
test_code Price = 4
test_code Box = 5
test_code Freedom = 6
test_code Gap = 7
test_code State = 8
test_code Bounds = 9
test_code Statistic = 10
test_code Nodal = 11
test_code Verdict = 12
test_code Least = 13

-- What a test asks of a stage that was to meet this gap in these sweeps.
abbrev pub Passes : Stage → ℕ → ℕ → Test → Type 0
Passes stage gap sweeps Class = EachStream stage (HasClassAt stage)
Passes stage gap sweeps Witness = EachStream stage (λ j r. IsCertified stage.graph j r.classified)
Passes stage gap sweeps Balance = IsBalanced stage.graph (printed_flows stage)
Passes stage gap sweeps Price = (node : ℕ) → node < stage.graph.nodes → HasGroupPriceAt stage node
Passes stage gap sweeps Box = All (IsInBox (printed_price stage)) stage.graph.streams
Passes stage gap sweeps Freedom = HasFreedom stage.graph.streams stage.dof
Passes stage gap sweeps Gap = printed_gap stage ≡ found_gap stage
Passes stage gap sweeps State = IsStateAt gap sweeps (printed_gap stage) stage.solved
Passes stage gap sweeps Bounds = EachStream stage (λ j r. r.bounds ≡ found_bounds stage j r)
Passes stage gap sweeps Statistic = (stage.low ≡ found_low stage) × (stage.high ≡ found_high stage)
Passes stage gap sweeps Nodal = IfSome stage.tests (λ tests. AreNodalTests stage.graph None (map unjudged tests.nodal))
Passes stage gap sweeps Verdict =
    IfSome stage.tests (λ tests.
    IsGlobalVerdict stage tests × All IsNodalVerdict tests.nodal × All IsMeasureVerdict tests.measure)
Passes stage gap sweeps Least = HasLeastBounds stage → EachStream stage (λ j r. r.least ≡ found_least stage j r)

-- The fault that it reports if it fails. That of the balance has the net flow at the first node where it isn't 0. The numbers of a whole
-- stage are: the degrees of freedom; h, and if it agrees, g; the sweeps done and those that were allowed; the low end of the statistic,
-- and if it agrees, the high end, with -1 for none.
abbrev pub Fails : Stage → ℕ → ℕ → Test → Fault → Type 0
Fails stage gap sweeps Class fault =
    FirstFails (HasClassAt stage) stage.streams (λ j r. fault ≡ bare_fault_at (Stream j))
Fails stage gap sweeps Witness fault =
    FirstFails (λ j r. IsCertified stage.graph j r.classified) stage.streams
    (λ j r. fault ≡ bare_fault_at (Stream j))
Fails stage gap sweeps Balance fault =
    (node : ℕ)
    × IsFirstWithout (λ n. net_of n stage.graph.streams (printed_flows stage) ≡ pos 0) stage.graph.nodes node
    × (fault ≡ fault_at (Node node) (pos 0, net_of node stage.graph.streams (printed_flows stage)))
Fails stage gap sweeps Price fault = IsPriceFault stage fault
Fails stage gap sweeps Box fault = IsBoxFault stage fault
Fails stage gap sweeps Freedom fault =
    (dof : ℕ) × HasFreedom stage.graph.streams dof × IsWholeFault (stage.dof ≡ dof) (pos stage.dof, pos dof) fault
Fails stage gap sweeps Gap fault =
    let found = found_gap stage in
    IsWholeFault (Passes stage gap sweeps Gap)
    (first_differing (pos stage.h) (pos found.h) (pos stage.g) (pos found.g)) fault
Fails stage gap sweeps State fault =
    IsWholeFault (Passes stage gap sweeps State) (pos (sweeps_of stage.solved), pos sweeps) fault
Fails stage gap sweeps Bounds fault = IsBoundsFault stage (λ r. r.bounds) (found_bounds stage) fault
Fails stage gap sweeps Statistic fault =
    IsWholeFault (Passes stage gap sweeps Statistic)
    (first_differing stage.low (found_low stage)
    (unwrap_or stage.high (negsuc 0)) (unwrap_or (found_high stage) (negsuc 0))) fault
Fails stage gap sweeps Nodal fault =
    IsSomeAnd stage.tests (λ tests. (rule : List NodalTest) × AreNodalTests stage.graph None rule
    × AreRowsFault (map unjudged tests.nodal) rule fault)
Fails stage gap sweeps Verdict fault = IsSomeAnd stage.tests (λ tests. AreVerdictsFault stage tests fault)
Fails stage gap sweeps Least fault = HasLeastBounds stage × IsBoundsFault stage (λ r. r.least) (found_least stage) fault

-- A stage passes if it passes all tests.
abbrev pub IsPassed : Stage → ℕ → ℕ → Type 0
IsPassed stage gap sweeps = (test : Test) → Passes stage gap sweeps test

-- Its first fault, if it doesn't pass: the stage passes the tests before this one, and this one fails with this fault.
pub record IsFirstFault (stage : Stage) (gap sweeps : ℕ) (test : Test) (place : Place) (stated found : ℤ) : Type 0 where
  pub before : (other : Test) → test_code other < test_code test → Passes stage gap sweeps other
  pub fails : Fails stage gap sweeps test (record { place = place; stated = stated; found = found })

-- a place is one of the stage
abbrev pub IsPlaceWithin : Stage → Place → Type 0
IsPlaceWithin stage (Node n) = n < stage.graph.nodes
IsPlaceWithin stage (Stream j) = j < length stage.streams
IsPlaceWithin stage Whole = Unit {0}

-- why a stage doesn't pass: its first fault
abbrev pub IsRefusal : Stage → ℕ → ℕ → CheckFault → Type 0
IsRefusal stage gap sweeps (At test place stated found) = IsFirstFault stage gap sweeps test place stated found
IsRefusal stage gap sweeps NoMemory = Unit {0}

-- the fault is at a place of the stage
abbrev pub IsRefusalWithin : Stage → CheckFault → Type 0
IsRefusalWithin stage (At test place stated found) = IsPlaceWithin stage place
IsRefusalWithin stage NoMemory = Unit {0}
