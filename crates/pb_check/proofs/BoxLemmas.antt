-- The box of a measured stream, by how much the prices at its ends differ.
use Rattle.std.proofs.Common.{◌≡◌, ◌∙◌, ℕ, ◌<◌, ◌≤◌, ℤ, pos, negsuc, ◌-ℤ◌, ◌*ℤ◌, ◌≤ℤ◌, ◌<ℤ◌, unsigned_abs, Option, Some, None, slice_get, get_or, length, sym, ap, ap₂, subst, arith}
use Rattle.std.specs.Prelude.{IfSome, All}
use Rattle.std.proofs.lemmas.Int.{ints}
use Rattle.std.proofs.lemmas.Option.{get_or_from_slice_get, slice_get-get_or}
use Rattle.pb_fixed.proofs.Order.{le_trans, mul_mono, le_by_eq}
use Rattle.pb_fixed.proofs.Lists.{some_same, all_each}
use Rattle.pb_fixed.specs.Quotients.{IsFloor}
use Rattle.pb_fixed.proofs.QuotientLaws.{floor_is, floor_from}
use Rattle.pb_graph.specs.declared.records.Meas.{Meas}
use Rattle.pb_graph.specs.declared.records.Stream.{Stream}
use Rattle.pb_study.specs.declared.results.Stage.{Stage}
use Rattle.pb_graph.specs.ProcessGraph.{ProcessGraph, IsMeasurement, IsProcessGraph, IsWithinLimits}
use Rattle.pb_graph.specs.Prices.{IsInBox, most_adjustment, rise_of}
use Rattle.pb_dual.specs.Candidates.{room_of}
use Rattle.pb_stage.specs.Printed.{printed_price}
use Rattle.pb_check.specs.declared.faults.Fault.{Fault}
use Rattle.pb_check.specs.declared.faults.Place.{Place}
use Rattle.pb_check.specs.Faults.{IsBoxFault}
use Rattle.pb_check.specs.Places.{IsInBoxAt, IsOutOfBox}
use Rattle.pb_check.proofs.PlaceLemmas.{fails_here, some_and}

-- the size of a product
size_times : (v d : ℤ) → pos 1 ≤ℤ v → pos (unsigned_abs d) *ℤ v ≡ pos (unsigned_abs (v *ℤ d))
size_times (pos v) (pos d) some = omega (arith, ints)
size_times (pos v) (negsuc d) some = omega (arith, ints)
size_times (negsuc v) d some = absurd (omega (arith, ints, some))

-- within the room is within the box
pub in_box : (v d : ℤ) → pos 1 ≤ℤ v → pos (unsigned_abs d) ≤ℤ room_of v → unsigned_abs (v *ℤ d) ≤ most_adjustment
in_box v d some near =
    let above : pos 0 <ℤ v = omega (arith, ints, some) in
    let floor : IsFloor (pos most_adjustment) v (room_of v) = floor_is (pos most_adjustment) v above in
    let product : (pos (unsigned_abs d) *ℤ v) ≤ℤ pos most_adjustment =
    le_trans (pos (unsigned_abs d) *ℤ v) (room_of v *ℤ v) (pos most_adjustment) (mul_mono (pos (unsigned_abs d)) (room_of v) v near (omega (arith, ints, some))) floor.below in
    let size = size_times v d some in
    omega (arith, ints, product, size)

-- and conversely
pub in_room : (v d : ℤ) → pos 1 ≤ℤ v → unsigned_abs (v *ℤ d) ≤ most_adjustment → pos (unsigned_abs d) ≤ℤ room_of v
in_room v d some small =
    let size = size_times v d some in
    floor_from (pos (unsigned_abs d)) (pos most_adjustment) v (omega (arith, ints, some)) (omega (arith, ints, size, small))

-- the rise of the printed price along a stream, by the prices at its ends
rise_is : (stage : Stage) (s : Stream) (a b : ℤ) → slice_get stage.prices s.from ≡ Some a → slice_get stage.prices s.to ≡ Some b
    → rise_of (printed_price stage) s ≡ b -ℤ a
rise_is stage s a b from to = ap₂ (λ x y. x -ℤ y) (get_or_from_slice_get stage.prices s.to b (pos 0) to) (get_or_from_slice_get stage.prices s.from a (pos 0) from)

-- a stream without measurement is in the box
pub unmeasured_inside : (stage : Stage) (j : ℕ) (s : Stream) → slice_get stage.graph.streams j ≡ Some s → s.meas ≡ None → IsInBoxAt stage j
unmeasured_inside stage j s here none = λ t there.
    let meas : t.meas ≡ None = ap (λ (u : Stream). u.meas) (some_same (sym there ∙ here)) ∙ none in
    subst (λ (o : Option Meas). IfSome o (λ m. unsigned_abs (m.variance *ℤ rise_of (printed_price stage) t) ≤ most_adjustment)) (sym meas) tt

-- what is known of a measured stream with its prices
pub record IsSeen (stage : Stage) (j : ℕ) (s : Stream) (m : Meas) (stated : ℤ) : Type 0 where
  pub here : slice_get stage.graph.streams j ≡ Some s
  pub meas : s.meas ≡ Some m
  pub some : pos 1 ≤ℤ m.variance
  pub is : stated ≡ pos (unsigned_abs (rise_of (printed_price stage) s))

pub seen_by : (stage : Stage) (j : ℕ) (s : Stream) (m : Meas) (stated a b : ℤ) → slice_get stage.graph.streams j ≡ Some s → s.meas ≡ Some m → pos 1 ≤ℤ m.variance
    → slice_get stage.prices s.from ≡ Some a → slice_get stage.prices s.to ≡ Some b → stated ≡ pos (unsigned_abs (b -ℤ a)) → IsSeen stage j s m stated
seen_by stage j s m stated a b here meas some from to is =
    record { here = here; meas = meas; some = some; is = is ∙ ap (λ (x : ℤ). pos (unsigned_abs x)) (sym (rise_is stage s a b from to)) }

pub inside : (stage : Stage) (j : ℕ) (s : Stream) (m : Meas) (stated : ℤ) → IsSeen stage j s m stated → stated ≤ℤ room_of m.variance → IsInBoxAt stage j
inside stage j s m stated seen near = λ t there.
    let price = printed_price stage in
    let same : t ≡ s = some_same (sym there ∙ seen.here) in
    let small : unsigned_abs (m.variance *ℤ rise_of price s) ≤ most_adjustment =
    in_box m.variance (rise_of price s) seen.some (subst (λ (x : ℤ). x ≤ℤ room_of m.variance) seen.is near) in
    subst (IsInBox price) (sym same) (subst (λ (o : Option Meas). IfSome o (λ m. unsigned_abs (m.variance *ℤ rise_of price s) ≤ most_adjustment)) (sym seen.meas) small)

abbrev box_fault_of : ℕ → ℤ → ℤ → Fault
box_fault_of j x y = record { place = Place.Stream j; stated = x; found = y }

pub outside : (stage : Stage) (j : ℕ) (s : Stream) (m : Meas) (stated found : ℤ) (fault : Fault) → IsSeen stage j s m stated → found ≡ room_of m.variance
    → (stated ≤ℤ found → ⊥) → fault ≡ record { place = Place.Stream j; stated = stated; found = found } → IsOutOfBox stage j fault
outside stage j s m stated found fault seen room far is =
    let price = printed_price stage in
    record {
      stream = s;
      meas = m;
      stream_is = seen.here;
      meas_is = seen.meas;
      fails = λ box.
          let small : unsigned_abs (m.variance *ℤ rise_of price s) ≤ most_adjustment =
          subst (λ (o : Option Meas). IfSome o (λ m. unsigned_abs (m.variance *ℤ rise_of price s) ≤ most_adjustment)) seen.meas (box s seen.here) in
          let near = in_room m.variance (rise_of price s) seen.some small in
          far (le_by_eq stated found (pos (unsigned_abs (rise_of price s))) (room_of m.variance) seen.is room near);
      is = is ∙ ap₂ (λ x y. box_fault_of j x y) seen.is room;
    }

-- each measured flow is in the box, or the first that isn't makes the fault
pub all_inside : (stage : Stage) → ((k : ℕ) → k < length stage.graph.streams → IsInBoxAt stage k) → (All (IsInBox (printed_price stage)) stage.graph.streams)
all_inside stage each = λ k d lt. each k lt (get_or stage.graph.streams k d) (slice_get-get_or stage.graph.streams k d lt)

pub box_fault_is : (stage : Stage) (j : ℕ) (fault : Fault) → j < length stage.graph.streams → ((k : ℕ) → k < j → IsInBoxAt stage k) → IsOutOfBox stage j fault → IsBoxFault stage fault
box_fault_is stage j fault lt before out =
    let price = printed_price stage in
    fails_here (λ k. IsInBox price) stage.graph.streams _ j out.stream out.stream_is before
    (λ inside. out.fails (λ t there. subst (IsInBox price) (some_same (sym out.stream_is ∙ there)) inside))
    (some_and out.stream.meas _ out.meas out.meas_is out.is)

-- what is measured of a stream is within its limits
pub measured_of : (graph : ProcessGraph) (j : ℕ) (s : Stream) (m : Meas) → IsProcessGraph graph → slice_get graph.streams j ≡ Some s → s.meas ≡ Some m → IsMeasurement m
measured_of graph j s m limits here is = subst (λ (o : Option Meas). IfSome o IsMeasurement) is (all_each IsWithinLimits graph.streams limits.limits j s here)
