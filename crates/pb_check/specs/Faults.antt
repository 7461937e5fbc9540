-- Statement. The fault that each test reports: the first place in order at which what the test asks isn't so, what the stage states there,
-- and what the rule gives.
use Rattle.std.specs.Prelude.{◌≡◌, ◌⊎◌, ◌==◌, ℕ, ℤ, pos, unsigned_abs, List, length, Option, Some, All, IsSomeAnd, slice_get, if◌then◌else◌}
use Rattle.std.specs.Ordering.{int_eq}
use Rattle.pb_study.specs.declared.results.Bounds.{Bounds}
use Rattle.pb_study.specs.declared.results.NodalTest.{NodalTest}
use Rattle.pb_study.specs.declared.results.StreamResult.{StreamResult}
use Rattle.pb_study.specs.declared.results.Tests.{Tests}
use Rattle.pb_study.specs.declared.results.Stage.{Stage}
use Rattle.pb_graph.specs.Prices.{IsInBox, rise_of}
use Rattle.pb_dual.specs.Candidates.{room_of}
use Rattle.pb_stage.specs.Printed.{printed_price}
use Rattle.pb_stage.specs.Certified.{IsMeasureVerdict, IsNodalVerdict}
use Rattle.pb_check.specs.declared.faults.Fault.{Fault}
use Rattle.pb_check.specs.declared.faults.Place.{Place}
use Rattle.pb_check.specs.declared.faults.Place.TheVariants.{Node, Whole}
use Rattle.pb_check.specs.First.{FirstFails, IsFirstWithout}
use Rattle.pb_check.specs.Asked.{HasGroupPriceAt, IsGlobalVerdict, IsLeastOfGroup}

-- of two pairs of numbers, each stated and found, the first pair that differs; the second pair if the first agrees
abbrev pub first_differing : ℤ → ℤ → ℤ → ℤ → ℤ × ℤ
first_differing stated found next_stated next_found =
    if int_eq stated found then (next_stated, next_found) else (stated, found)

-- a fault at a place, with what is stated there and what the rule gives
abbrev pub fault_at : Place → ℤ × ℤ → Fault
fault_at place numbers = record { place = place; stated = numbers.0; found = numbers.1 }

-- a fault without numbers
abbrev pub bare_fault_at : Place → Fault
bare_fault_at place = fault_at place (pos 0, pos 0)

-- what a test asks of the whole stage isn't so, and it reports these numbers
abbrev pub IsWholeFault : Type 0 → ℤ × ℤ → Fault → Type 0
IsWholeFault Asked numbers fault = (Asked → ⊥) × (fault ≡ fault_at Whole numbers)

-- ---- 4: the price of the first node that doesn't have the price of its group, and the price of the least node of the group, or 0 if these
-- two agree
abbrev pub IsPriceFault : Stage → Fault → Type 0
IsPriceFault stage fault =
    (node : ℕ) × (least : ℕ)
    × IsFirstWithout (HasGroupPriceAt stage) stage.graph.nodes node × IsLeastOfGroup stage.graph node least
    × (let price = printed_price stage node in
    fault ≡ fault_at (Node node) (first_differing price (printed_price stage least) price (pos 0)))

-- ---- 5: the difference of the prices at the ends of the first measured stream outside its box, and the greatest difference inside the box
abbrev pub IsBoxFault : Stage → Fault → Type 0
IsBoxFault stage fault =
    let price = printed_price stage in
    FirstFails (λ j. IsInBox price) stage.graph.streams (λ j stream. IsSomeAnd stream.meas (λ meas.
    fault ≡ fault_at (Place.Stream j) (pos (unsigned_abs (rise_of price stream)), room_of meas.variance)))

-- ---- 9 and 13: lo of the first stream whose bounds, or least bounds, aren't those of the rule, and that of the rule; if these agree, hi
abbrev pub IsBoundsFault : Stage → (StreamResult → Option Bounds) → (ℕ → StreamResult → Option Bounds) → Fault → Type 0
IsBoundsFault stage stated found fault =
    FirstFails (λ j r. stated r ≡ found j r) stage.streams (λ j r.
    IsSomeAnd (stated r) (λ here. IsSomeAnd (found j r) (λ there.
    fault ≡ fault_at (Place.Stream j) (first_differing here.lo there.lo here.hi there.hi))))

-- ---- 11: the number of rows, and that of the free groups; if these agree, the first row that isn't the test of its group: its node and
-- the least node of the group, its net flow or its variance, in this order
-- the first numbers in which a row differs from its test
abbrev pub row_numbers : NodalTest → NodalTest → ℤ × ℤ
row_numbers row test =
    if row.node == test.node then first_differing row.net test.net row.variance test.variance
    else (pos row.node, pos test.node)

-- the rows aren't the tests
abbrev pub AreRowsFault : List NodalTest → List NodalTest → Fault → Type 0
AreRowsFault rows tests fault =
    IsWholeFault (length rows ≡ length tests) (pos (length rows), pos (length tests)) fault
    ⊎ ((length rows ≡ length tests) × FirstFails (λ i row. slice_get tests i ≡ Some row) rows (λ i row.
    IsSomeAnd (slice_get tests i) (λ test. fault ≡ fault_at (Node row.node) (row_numbers row test))))

-- ---- 12: the first verdict that doesn't follow, in the order of the whole, the nodes and the streams; without numbers
abbrev pub AreVerdictsFault : Stage → Tests → Fault → Type 0
AreVerdictsFault stage tests fault =
    IsWholeFault (IsGlobalVerdict stage tests) (pos 0, pos 0) fault
    ⊎ (IsGlobalVerdict stage tests
    × (FirstFails (λ i. IsNodalVerdict) tests.nodal (λ i row. fault ≡ bare_fault_at (Node row.node))
    ⊎ (All IsNodalVerdict tests.nodal
    × FirstFails (λ i. IsMeasureVerdict) tests.measure (λ i row. fault ≡ bare_fault_at (Place.Stream row.stream)))))
