-- The candidates are the prices of one group that keep every stream in the box.
use Rattle.std.proofs.Common.{◌≡◌, ◌==◌, ◌^◌, ◌≤◌, ℕ, ℤ, pos, neg_ℤ, ◌+ℤ◌, ◌-ℤ◌, ◌*ℤ◌, ◌≤ℤ◌, List, [], ◌∷◌, true, false, not, refl, arith, Bool, Option, Some, None, unsigned_abs}
use Rattle.std.specs.Prelude.{if◌then◌else◌, IfSome}
use Rattle.std.specs.Int.{int_max, int_min}
use Rattle.std.specs.List.{AllByRecursion}
use Rattle.std.proofs.lemmas.Int.{int_max_is, int_min_is, ints}
use Rattle.pb_fixed.proofs.Order.{mul_mono}
use Rattle.pb_fixed.proofs.RingLaws.{mul_comm}
use Rattle.pb_fixed.proofs.Ring.{var, lit, plus, times, minus, ring}
use Rattle.pb_fixed.proofs.QuotientLaws.{floor_is, floor_from}
use Rattle.pb_graph.specs.declared.records.Meas.{Meas}
use Rattle.pb_graph.specs.declared.records.Stream.{Stream}
use Rattle.pb_graph.specs.ProcessGraph.{IsMeasurement, IsWithinLimits}
use Rattle.pb_graph.specs.Groups.{group_at}
use Rattle.pb_graph.specs.Prices.{IsInBox}
use Rattle.pb_dual.specs.Moves.{with_price}
use Rattle.pb_dual.specs.Candidates.{room_of, raised, lowered, raised_at, lowered_at, low_from, high_from, least_candidate, greatest_candidate}

abbrev Small : ℤ → ℤ → Type 0
Small v d = unsigned_abs (v *ℤ d) ≤ 2 ^ 112

-- the glue, over plain variables
glue : (x a b r : ℤ) → a ≡ x → b ≡ neg_ℤ x → a ≤ℤ r → b ≤ℤ r → r ≤ℤ pos (2 ^ 112) → unsigned_abs x ≤ 2 ^ 112
glue x a b r e f h k l = omega (arith, ints, e, f, h, k, l)

from_small : (x a : ℤ) → a ≡ x → unsigned_abs x ≤ 2 ^ 112 → a ≤ℤ pos (2 ^ 112)
from_small x a e h = omega (arith, ints, e, h)

from_small_neg : (x a : ℤ) → a ≡ neg_ℤ x → unsigned_abs x ≤ 2 ^ 112 → a ≤ℤ pos (2 ^ 112)
from_small_neg x a e h = omega (arith, ints, e, h)

turned : (v d : ℤ) → neg_ℤ d *ℤ v ≡ neg_ℤ (v *ℤ d)
turned v d = ring (d ∷ v ∷ []) (times (minus (var 0)) (var 1)) (minus (times (var 1) (var 0))) refl

-- a difference within the room either way is small, and a small one is within the room either way
small : (v d : ℤ) → pos 1 ≤ℤ v → d ≤ℤ room_of v → neg_ℤ d ≤ℤ room_of v → Small v d
small v d h a b =
    let r = room_of v in
    let f = floor_is (pos (2 ^ 112)) v (omega (arith, ints, h)) in
    let v_pos : pos 0 ≤ℤ v = omega (arith, ints, h) in
    let up = mul_mono d r v a v_pos in
    let down = mul_mono (neg_ℤ d) r v b v_pos in
    let e = mul_comm d v in
    glue (v *ℤ d) (d *ℤ v) (neg_ℤ d *ℤ v) (r *ℤ v) e (turned v d) up down f.below

above : (v d : ℤ) → pos 1 ≤ℤ v → Small v d → d ≤ℤ room_of v
above v d h s = let e = mul_comm d v in floor_from d (pos (2 ^ 112)) v (omega (arith, ints, h)) (from_small (v *ℤ d) (d *ℤ v) e s)

below : (v d : ℤ) → pos 1 ≤ℤ v → Small v d → neg_ℤ d ≤ℤ room_of v
below v d h s = floor_from (neg_ℤ d) (pos (2 ^ 112)) v (omega (arith, ints, h)) (from_small_neg (v *ℤ d) (neg_ℤ d *ℤ v) (turned v d) s)

abbrev pick : Bool → ℤ → ℤ → ℤ
pick a c x = if a then c else x

abbrev crosses : Bool → Bool → Bool
crosses from_in to_in = if to_in then not from_in else from_in

-- the bounds after one stream, by which of its ends are in the group; y and x are the prices of its ends
abbrev raised_one : Option Meas → Bool → Bool → ℤ → ℤ → ℤ → ℤ
raised_one o b a y x lo = if crosses b a then raised o (if a then y else x) lo else lo

abbrev lowered_one : Option Meas → Bool → Bool → ℤ → ℤ → ℤ → ℤ
lowered_one o b a y x hi = if crosses b a then lowered o (if a then y else x) hi else hi

abbrev Box : Option Meas → ℤ → Type 0
Box o d = IfSome o (λ m. unsigned_abs (m.variance *ℤ d) ≤ 2 ^ 112)

none : (v c : ℤ) → unsigned_abs (v *ℤ (c -ℤ c)) ≤ 2 ^ 112
none v c = let e : v *ℤ (c -ℤ c) ≡ pos 0 = ring (v ∷ c ∷ []) (times (var 0) (plus (var 1) (minus (var 1)))) (lit (pos 0)) refl in rw e (omega arith)

max_parts : (a b c : ℤ) → int_max a b ≤ℤ c → (a ≤ℤ c) × (b ≤ℤ c)
max_parts a b c h = let e = int_max_is a b in (omega (arith, ints, h, e), omega (arith, ints, h, e))

min_parts : (a b c : ℤ) → c ≤ℤ int_min a b → (c ≤ℤ a) × (c ≤ℤ b)
min_parts a b c h = let e = int_min_is a b in (omega (arith, ints, h, e), omega (arith, ints, h, e))

max_of : (a b c : ℤ) → a ≤ℤ c → b ≤ℤ c → int_max a b ≤ℤ c
max_of a b c h k = let e = int_max_is a b in omega (arith, ints, h, k, e)

min_of : (a b c : ℤ) → c ≤ℤ a → c ≤ℤ b → c ≤ℤ int_min a b
min_of a b c h k = let e = int_min_is a b in omega (arith, ints, h, k, e)

past : (c y r : ℤ) → c ≤ℤ (y +ℤ r) → (c -ℤ y) ≤ℤ r
past c y r h = omega (arith, ints, h)

short : (c y r : ℤ) → (y -ℤ r) ≤ℤ c → neg_ℤ (c -ℤ y) ≤ℤ r
short c y r h = omega (arith, ints, h)

past_other : (c x r : ℤ) → c ≤ℤ (x +ℤ r) → neg_ℤ (x -ℤ c) ≤ℤ r
past_other c x r h = omega (arith, ints, h)

short_other : (c x r : ℤ) → (x -ℤ r) ≤ℤ c → (x -ℤ c) ≤ℤ r
short_other c x r h = omega (arith, ints, h)

-- one stream
forth : (o : Option Meas) (b a : Bool) (y x lo hi c : ℤ) → IfSome o IsMeasurement → Box o (x -ℤ y) → raised_one o b a y x lo ≤ℤ c → c ≤ℤ lowered_one o b a y x hi
    → (lo ≤ℤ c) × (c ≤ℤ hi) × Box o (pick a c x -ℤ pick b c y)
forth None true true y x lo hi c v f h k = (h, k, f)
forth None true false y x lo hi c v f h k = (h, k, f)
forth None false true y x lo hi c v f h k = (h, k, f)
forth None false false y x lo hi c v f h k = (h, k, f)
forth (Some m) true true y x lo hi c v f h k = (h, k, none m.variance c)
forth (Some m) false true y x lo hi c v f h k =
    let l = max_parts lo (y -ℤ room_of m.variance) c h in
    let u = min_parts hi (y +ℤ room_of m.variance) c k in
    (l.0, u.0, small m.variance (c -ℤ y) v.least (past c y (room_of m.variance) u.1) (short c y (room_of m.variance) l.1))
forth (Some m) true false y x lo hi c v f h k =
    let l = max_parts lo (x -ℤ room_of m.variance) c h in
    let u = min_parts hi (x +ℤ room_of m.variance) c k in
    (l.0, u.0, small m.variance (x -ℤ c) v.least (short_other c x (room_of m.variance) l.1) (past_other c x (room_of m.variance) u.1))
forth (Some m) false false y x lo hi c v f h k = (h, k, f)

back : (o : Option Meas) (b a : Bool) (y x lo hi c : ℤ) → IfSome o IsMeasurement → lo ≤ℤ c → c ≤ℤ hi → Box o (pick a c x -ℤ pick b c y)
    → (raised_one o b a y x lo ≤ℤ c) × (c ≤ℤ lowered_one o b a y x hi)
back None true true y x lo hi c v h k f = (h, k)
back None true false y x lo hi c v h k f = (h, k)
back None false true y x lo hi c v h k f = (h, k)
back None false false y x lo hi c v h k f = (h, k)
back (Some m) true true y x lo hi c v h k f = (h, k)
back (Some m) false true y x lo hi c v h k f =
    let u = above m.variance (c -ℤ y) v.least f in
    let d = below m.variance (c -ℤ y) v.least f in
    (max_of lo (y -ℤ room_of m.variance) c h (omega (arith, ints, d)), min_of hi (y +ℤ room_of m.variance) c k (omega (arith, ints, u)))
back (Some m) true false y x lo hi c v h k f =
    let u = above m.variance (x -ℤ c) v.least f in
    let d = below m.variance (x -ℤ c) v.least f in
    (max_of lo (x -ℤ room_of m.variance) c h (omega (arith, ints, u)), min_of hi (x +ℤ room_of m.variance) c k (omega (arith, ints, d)))
back (Some m) false false y x lo hi c v h k f = (h, k)

all_forth : (group : List ℕ) (price : ℕ → ℤ) (k : ℕ) (lo hi c : ℤ) (ss : List Stream) → AllByRecursion IsWithinLimits ss → AllByRecursion (IsInBox price) ss
    → low_from group price k lo ss ≤ℤ c → c ≤ℤ high_from group price k hi ss → (lo ≤ℤ c) × (c ≤ℤ hi) × AllByRecursion (IsInBox (with_price group price k c)) ss
all_forth group price k lo hi c [] v f h e = (h, e, tt)
all_forth group price k lo hi c (s ∷ ss) v f h e =
    let rest = all_forth group price k (raised_at group price k s lo) (lowered_at group price k s hi) c ss v.1 f.1 h e in
    let one = forth s.meas (group_at group s.from == k) (group_at group s.to == k) (price s.from) (price s.to) lo hi c v.0 f.0 rest.0 rest.1 in
    (one.0, one.1, (one.2, rest.2))

all_back : (group : List ℕ) (price : ℕ → ℤ) (k : ℕ) (lo hi c : ℤ) (ss : List Stream) → AllByRecursion IsWithinLimits ss → lo ≤ℤ c → c ≤ℤ hi
    → AllByRecursion (IsInBox (with_price group price k c)) ss → (low_from group price k lo ss ≤ℤ c) × (c ≤ℤ high_from group price k hi ss)
all_back group price k lo hi c [] v h e f = (h, e)
all_back group price k lo hi c (s ∷ ss) v h e f =
    let one = back s.meas (group_at group s.from == k) (group_at group s.to == k) (price s.from) (price s.to) lo hi c v.0 h e f.0 in
    all_back group price k (raised_at group price k s lo) (lowered_at group price k s hi) c ss v.1 one.0 one.1 f.1

-- the candidates keep the streams in the box, and are at most 2^120 either way
pub candidate_in_box : (group : List ℕ) (price : ℕ → ℤ) (k : ℕ) (c : ℤ) (ss : List Stream) → AllByRecursion IsWithinLimits ss → AllByRecursion (IsInBox price) ss
    → least_candidate group price k ss ≤ℤ c → c ≤ℤ greatest_candidate group price k ss → (unsigned_abs c ≤ 2 ^ 120) × AllByRecursion (IsInBox (with_price group price k c)) ss
candidate_in_box group price k c ss v f h e =
    let r = all_forth group price k (neg_ℤ (pos (2 ^ 120))) (pos (2 ^ 120)) c ss v f h e in
    (omega (arith, ints, r.0, r.1), r.2)

pub in_box_candidate : (group : List ℕ) (price : ℕ → ℤ) (k : ℕ) (c : ℤ) (ss : List Stream) → AllByRecursion IsWithinLimits ss → unsigned_abs c ≤ 2 ^ 120
    → AllByRecursion (IsInBox (with_price group price k c)) ss → (least_candidate group price k ss ≤ℤ c) × (c ≤ℤ greatest_candidate group price k ss)
in_box_candidate group price k c ss v h f =
    all_back group price k (neg_ℤ (pos (2 ^ 120))) (pos (2 ^ 120)) c ss v (omega (arith, ints, h)) (omega (arith, ints, h)) f
