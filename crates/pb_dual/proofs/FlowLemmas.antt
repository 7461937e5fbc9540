-- The kept dual flows, and those at the border of a group whose price moves.
use Rattle.std.proofs.Common.{◌≡◌, ◌≢◌, ◌∙◌, ◌==◌, ◌^◌, ℕ, zero, suc, ◌+◌, ◌<◌, ◌≤◌, ℤ, pos, ◌+ℤ◌, ◌-ℤ◌, ◌*ℤ◌, Bool, true, false, List, [], ◌∷◌, ◌++◌, length, map, get_or, take, drop, set, Option, Some, None, inl, inr, refl, sym, subst, ap, ap₂, arith, unsigned_abs}
use Rattle.std.specs.Prelude.{IfSome}
use Rattle.std.specs.List.{All, AllByRecursion}
use Rattle.std.specs.Option.{option_to_list}
use Rattle.std.proofs.lemmas.Bool.{cases_eq, cases_lt, eqb-false}
use Rattle.std.proofs.lemmas.Int.{ints}
use Rattle.std.proofs.lemmas.List.{ext_get_or, get_or_default, get_or_past, take-append-le, take_all, get_or-set_other, get_or-set_same, length-map}
use Rattle.pb_limits.specs.Limits.{most_streams, most_value}
use Rattle.pb_fixed.specs.Sums.{item}
use Rattle.pb_fixed.proofs.Lists.{AllByRecursion-from_all, All-from_recursion, drop_next}
use Rattle.pb_graph.specs.declared.records.Meas.{Meas}
use Rattle.pb_graph.specs.declared.records.Stream.{Stream}
use Rattle.pb_graph.specs.ProcessGraph.{IsMeasurement, IsWithinLimits, some_stream}
use Rattle.pb_graph.specs.Groups.{group_at}
use Rattle.pb_graph.specs.Prices.{IsInBox, rise_of}
use Rattle.pb_dual.specs.declared.border.BorderStream.{BorderStream}
use Rattle.pb_dual.specs.DualValue.{scale, flow_at, dual_flow, dual_flows_of, most_dual_flow}
use Rattle.pb_dual.specs.Border.{HasLimits, seen_of, seen_at, border_from, border_of, HaveFlows, AreSameElsewhere}
use Rattle.pb_dual.proofs.BorderLemmas.{AreKept, are_ends, length_border, node_price}

-- an item of a list that is made item by item
pub map_item : {A : Type 0} (f : A → ℤ) (ss : List A) (j : ℕ) (d : A) → j < length ss → item (map f ss) j ≡ f (get_or ss j d)
map_item f [] j d lt = absurd (omega (arith, lt))
map_item f (s ∷ ss) zero d lt = refl
map_item f (s ∷ ss) (suc j) d lt = map_item f ss j d (omega (arith, lt))

kept : (price : ℕ → ℤ) (flows : List ℤ) (j : ℕ) (ss : List Stream) → ((i : ℕ) → i < length ss → item flows (j + i) ≡ dual_flow price (get_or ss i some_stream)) → AreKept price flows j ss
kept price flows j [] h = tt
kept price flows j (s ∷ ss) h = (
  let e : j + 0 ≡ j = omega arith in subst (λ (n : ℕ). item flows n ≡ dual_flow price s) e (h 0 (omega arith)),
  kept price flows (suc j) ss (λ i lt. let e : j + suc i ≡ suc j + i = omega arith in subst (λ (n : ℕ). item flows n ≡ dual_flow price (get_or ss i some_stream)) e (h (suc i) (omega (arith, lt)))),
)

-- the dual flows of a list of streams are kept, starting from its first
pub flows_kept : (price : ℕ → ℤ) (flows : List ℤ) (ss : List Stream) → flows ≡ dual_flows_of price ss → AreKept price flows 0 ss
flows_kept price flows ss is = kept price flows 0 ss (λ i lt.
    let e : i ≡ 0 + i = omega arith in
    subst (λ (n : ℕ). item flows n ≡ dual_flow price (get_or ss i some_stream)) e (ap (λ (us : List ℤ). item us i) is ∙ map_item (dual_flow price) ss i some_stream lt))

-- each stream at a border is one of the list
there_one : (j n : ℕ) (o : Option Meas) (b a : Bool) (from to : ℕ) (rest : List BorderStream) → j < n → AllByRecursion (λ a. a.stream < n) rest
    → AllByRecursion (λ a. a.stream < n) (option_to_list (seen_of j o b a from to) ++ rest)
there_one j n None true true from to rest h r = r
there_one j n None true false from to rest h r = r
there_one j n None false true from to rest h r = r
there_one j n None false false from to rest h r = r
there_one j n (Some m) true true from to rest h r = r
there_one j n (Some m) true false from to rest h r = (h, r)
there_one j n (Some m) false true from to rest h r = (h, r)
there_one j n (Some m) false false from to rest h r = r

there_from : (group : List ℕ) (k j n : ℕ) (ss : List Stream) → j + length ss ≤ n → AllByRecursion (λ a. a.stream < n) (border_from group k j ss)
there_from group k j n [] h = tt
there_from group k j n (s ∷ ss) h =
    there_one j n s.meas (group_at group s.from == k) (group_at group s.to == k) (group_at group s.from) (group_at group s.to) (border_from group k (suc j) ss) (omega (arith, h))
    (there_from group k (suc j) n ss (omega (arith, h)))

pub border_there : (group : List ℕ) (k n : ℕ) (ss : List Stream) → length ss ≡ n → All (λ a. a.stream < n) (border_of group k ss)
border_there group k n ss each = All-from_recursion (λ (a : BorderStream). a.stream < n) (border_of group k ss) (there_from group k 0 n ss (omega (arith, each)))

-- each stream at a border has its dual flow among those of all streams
have_one : (j : ℕ) (o : Option Meas) (b a : Bool) (from to k : ℕ) (prices flows : List ℤ) (rest : List BorderStream) → (b ≡ true → from ≡ k) → (a ≡ true → to ≡ k)
    → item flows j ≡ flow_at o (get_or prices to (pos 0) -ℤ get_or prices from (pos 0)) → HaveFlows prices k rest flows → HaveFlows prices k (option_to_list (seen_of j o b a from to) ++ rest) flows
have_one j None true true from to k prices flows rest h e is r = r
have_one j None true false from to k prices flows rest h e is r = r
have_one j None false true from to k prices flows rest h e is r = r
have_one j None false false from to k prices flows rest h e is r = r
have_one j (Some m) true true from to k prices flows rest h e is r = r
have_one j (Some m) false true from to k prices flows rest h e is r = (
  is ∙ ap (λ (n : ℕ). (scale *ℤ m.value) +ℤ (m.variance *ℤ (get_or prices n (pos 0) -ℤ get_or prices from (pos 0)))) (e refl),
  r,
)
have_one j (Some m) true false from to k prices flows rest h e is r = (
  is ∙ ap (λ (n : ℕ). (scale *ℤ m.value) +ℤ (m.variance *ℤ (get_or prices to (pos 0) -ℤ get_or prices n (pos 0)))) (h refl),
  r,
)
have_one j (Some m) false false from to k prices flows rest h e is r = r

pub have_flows : (group : List ℕ) (prices flows : List ℤ) (k j : ℕ) (ss : List Stream) → AreKept (node_price group prices) flows j ss → HaveFlows prices k (border_from group k j ss) flows
have_flows group prices flows k j [] h = tt
have_flows group prices flows k j (s ∷ ss) h =
    let from = group_at group s.from in
    let to = group_at group s.to in
    let ends = are_ends k from to in
    have_one j s.meas (from == k) (to == k) from to k prices flows (border_from group k (suc j) ss) ends.0 ends.1 h.0 (have_flows group prices flows k (suc j) ss h.1)

-- a stream that isn't at the border of group k keeps its dual flow when the price of group k moves
apart_one : (j : ℕ) (o : Option Meas) (b a : Bool) (from to : ℕ) (rest : List BorderStream) → AllByRecursion (λ x. x.stream ≢ j) (option_to_list (seen_of j o b a from to) ++ rest)
    → seen_of j o b a from to ≡ None
apart_one j None true true from to rest h = refl
apart_one j None true false from to rest h = refl
apart_one j None false true from to rest h = refl
apart_one j None false false from to rest h = refl
apart_one j (Some m) true true from to rest h = refl
apart_one j (Some m) true false from to rest h = absurd (h.0 refl)
apart_one j (Some m) false true from to rest h = absurd (h.0 refl)
apart_one j (Some m) false false from to rest h = refl

apart_rest : (j : ℕ) (o : Option BorderStream) (rest : List BorderStream) → AllByRecursion (λ x. x.stream ≢ j) (option_to_list o ++ rest) → AllByRecursion (λ x. x.stream ≢ j) rest
apart_rest j None rest h = h
apart_rest j (Some a) rest h = h.1

no_rise : (x y u v : ℤ) → x ≡ y → u ≡ v → x -ℤ y ≡ u -ℤ v
no_rise x y u v e f = omega (arith, ints, e, f)

flow_same : (j : ℕ) (o : Option Meas) (b a : Bool) (from to k : ℕ) (prices others : List ℤ) → (b ≡ true → from ≡ k) → (a ≡ true → to ≡ k)
    → (b ≡ false → get_or prices from (pos 0) ≡ get_or others from (pos 0)) → (a ≡ false → get_or prices to (pos 0) ≡ get_or others to (pos 0)) → seen_of j o b a from to ≡ None
    → flow_at o (get_or prices to (pos 0) -ℤ get_or prices from (pos 0)) ≡ flow_at o (get_or others to (pos 0) -ℤ get_or others from (pos 0))
flow_same j None b a from to k prices others h e f g none = refl
flow_same j (Some m) true true from to k prices others h e f g none =
    let same : to ≡ from = e refl ∙ sym (h refl) in
    ap (flow_at (Some m)) (no_rise (get_or prices to (pos 0)) (get_or prices from (pos 0)) (get_or others to (pos 0)) (get_or others from (pos 0))
    (ap (λ (n : ℕ). get_or prices n (pos 0)) same) (ap (λ (n : ℕ). get_or others n (pos 0)) same))
flow_same j (Some m) true false from to k prices others h e f g none = cc none
flow_same j (Some m) false true from to k prices others h e f g none = cc none
flow_same j (Some m) false false from to k prices others h e f g none = ap₂ (λ (x y : ℤ). flow_at (Some m) (x -ℤ y)) (g refl) (f refl)

same_from : (group : List ℕ) (prices others : List ℤ) (k j i : ℕ) (ss : List Stream) → ((g : ℕ) → g ≢ k → get_or prices g (pos 0) ≡ get_or others g (pos 0)) → i < length ss
    → AllByRecursion (λ x. x.stream ≢ (j + i)) (border_from group k j ss)
    → dual_flow (node_price group prices) (get_or ss i some_stream) ≡ dual_flow (node_price group others) (get_or ss i some_stream)
same_from group prices others k j i [] apart lt h = absurd (omega (arith, lt))
same_from group prices others k j zero (s ∷ ss) apart lt h =
    let from = group_at group s.from in
    let to = group_at group s.to in
    let ends = are_ends k from to in
    let e : j + 0 ≡ j = omega arith in
    let none = apart_one j s.meas (from == k) (to == k) from to (border_from group k (suc j) ss) (subst (λ (n : ℕ). AllByRecursion (λ x. x.stream ≢ n) (border_from group k j (s ∷ ss))) e h) in
    flow_same j s.meas (from == k) (to == k) from to k prices others ends.0 ends.1 (λ f. apart from (eqb-false from k f)) (λ f. apart to (eqb-false to k f)) none
same_from group prices others k j (suc i) (s ∷ ss) apart lt h =
    let e : j + suc i ≡ suc j + i = omega arith in
    let rest = apart_rest (j + suc i) (seen_at group k j s) (border_from group k (suc j) ss) h in
    same_from group prices others k (suc j) i ss apart (omega (arith, lt)) (subst (λ (n : ℕ). AllByRecursion (λ x. x.stream ≢ n) (border_from group k (suc j) ss)) e rest)

pub same_elsewhere : (group : List ℕ) (prices others : List ℤ) (k : ℕ) (ss : List Stream) → ((g : ℕ) → g ≢ k → get_or prices g (pos 0) ≡ get_or others g (pos 0))
    → AreSameElsewhere (border_of group k ss) (dual_flows_of (node_price group prices) ss) (dual_flows_of (node_price group others) ss)
same_elsewhere group prices others k ss apart j h =
    let these = dual_flows_of (node_price group prices) ss in
    let those = dual_flows_of (node_price group others) ss in
    elim (cases_lt j (length ss)) [
      | inl lt ↦
          let e : j ≡ 0 + j = omega arith in
          map_item (dual_flow (node_price group prices)) ss j some_stream lt
          ∙ same_from group prices others k 0 j ss apart lt (subst (λ (n : ℕ). AllByRecursion (λ x. x.stream ≢ n) (border_of group k ss)) e h)
          ∙ sym (map_item (dual_flow (node_price group others)) ss j some_stream lt)
      | inr past ↦
          get_or_past these j (pos 0) (omega (arith, past, length-map ss (dual_flow (node_price group prices))))
          ∙ sym (get_or_past those j (pos 0) (omega (arith, past, length-map ss (dual_flow (node_price group others)))))
    ]

-- one more number is written
pub put_value : (out target : List ℤ) (j : ℕ) (x : ℤ) → j < length out → x ≡ item target j → ((k : ℕ) → k < j → item out k ≡ item target k)
    → (k : ℕ) → k < j + 1 → item (set out j x) k ≡ item target k
put_value out target j x lt is before k below = elim (cases_eq k j) [
  | inl same ↦ subst (λ (n : ℕ). item (set out j x) n ≡ item target n) (sym same) (get_or-set_same out j x (pos 0) lt ∙ is)
  | inr other ↦ get_or-set_other out j k x (pos 0) other ∙ before k (omega (arith, below, other))
]

pub whole : (out target : List ℤ) (n j : ℕ) → length out ≡ n → length target ≡ n → n ≤ j → ((k : ℕ) → k < j → item out k ≡ item target k) → out ≡ target
whole out target n j each wanted end is = ext_get_or (pos 0) out target (each ∙ sym wanted) (λ k lt. is k (omega (arith, lt, each, end)))

-- one more flow is written
pub write_more : (border : List BorderStream) (flows others : List ℤ) (i : ℕ) (d : BorderStream) (x : ℤ) → i < length border → (get_or border i d).stream < length flows
    → x ≡ item others (get_or border i d).stream → AreSameElsewhere (drop i border) flows others → AreSameElsewhere (drop (i + 1) border) (set flows (get_or border i d).stream x) others
write_more border flows others i d x here lt is before j h =
    let own = (get_or border i d).stream in
    elim (cases_eq j own) [
      | inl same ↦ subst (λ (n : ℕ). item (set flows own x) n ≡ item others n) (sym same) (get_or-set_same flows own x (pos 0) lt ∙ is)
      | inr other ↦
          get_or-set_other flows own j x (pos 0) other
          ∙ before j (subst (λ (b : List BorderStream). AllByRecursion (λ a. a.stream ≢ j) b) (sym (drop_next border i d here)) ((λ e. other (sym e)), h))
    ]

-- dual flows of prices in the box are small
sum_small : (v x : ℤ) → unsigned_abs v ≤ most_value → unsigned_abs x ≤ 2 ^ 112 → unsigned_abs ((scale *ℤ v) +ℤ x) ≤ most_dual_flow
sum_small v x h k = omega (arith, ints, h, k)

flow_small : (o : Option Meas) (d : ℤ) → IfSome o IsMeasurement → IfSome o (λ m. unsigned_abs (m.variance *ℤ d) ≤ 2 ^ 112) → unsigned_abs (flow_at o d) ≤ most_dual_flow
flow_small None d l b = omega arith
flow_small (Some m) d l b = sum_small m.value (m.variance *ℤ d) l.value b

flows_small_from : (price : ℕ → ℤ) (ss : List Stream) → AllByRecursion IsWithinLimits ss → AllByRecursion (IsInBox price) ss → AllByRecursion (λ u. unsigned_abs u ≤ most_dual_flow) (dual_flows_of price ss)
flows_small_from price [] l b = tt
flows_small_from price (s ∷ ss) l b = (flow_small s.meas (rise_of price s) l.0 b.0, flows_small_from price ss l.1 b.1)

pub flows_small : (price : ℕ → ℤ) (ss : List Stream) → All IsWithinLimits ss → All (IsInBox price) ss → All (λ u. unsigned_abs u ≤ most_dual_flow) (dual_flows_of price ss)
flows_small price ss l b =
    All-from_recursion (λ (u : ℤ). unsigned_abs u ≤ most_dual_flow) (dual_flows_of price ss) (flows_small_from price ss (AllByRecursion-from_all IsWithinLimits ss l) (AllByRecursion-from_all (IsInBox price) ss b))

-- what is read of the kept dual flows
pub flow_item : (price : ℕ → ℤ) (flows : List ℤ) (ss : List Stream) (j : ℕ) (s : Stream) → flows ≡ dual_flows_of price ss → j < length ss → get_or ss j some_stream ≡ s
    → item flows j ≡ dual_flow price s
flow_item price flows ss j s are lt is = ap (λ (us : List ℤ). item us j) are ∙ map_item (dual_flow price) ss j some_stream lt ∙ ap (dual_flow price) is

-- a vector whose items were written
pub put_back : {A : Type 0} (n : ℕ) (xs ys : List A) → length xs ≡ n → take n (xs ++ drop (length xs) ys) ≡ xs
put_back n xs ys each = take-append-le n xs (drop (length xs) ys) (omega (arith, each)) ∙ take_all n xs (omega (arith, each))

-- the streams at a border are within their limits
limits_one : (j : ℕ) (o : Option Meas) (b a : Bool) (from to : ℕ) (rest : List BorderStream) → IfSome o IsMeasurement → AllByRecursion HasLimits rest
    → AllByRecursion HasLimits (option_to_list (seen_of j o b a from to) ++ rest)
limits_one j None true true from to rest l r = r
limits_one j None true false from to rest l r = r
limits_one j None false true from to rest l r = r
limits_one j None false false from to rest l r = r
limits_one j (Some m) true true from to rest l r = r
limits_one j (Some m) true false from to rest l r = (record { least = l.least; greatest = l.greatest }, r)
limits_one j (Some m) false true from to rest l r = (record { least = l.least; greatest = l.greatest }, r)
limits_one j (Some m) false false from to rest l r = r

pub limits_from : (group : List ℕ) (k j : ℕ) (ss : List Stream) → AllByRecursion IsWithinLimits ss → AllByRecursion HasLimits (border_from group k j ss)
limits_from group k j [] l = tt
limits_from group k j (s ∷ ss) l =
    limits_one j s.meas (group_at group s.from == k) (group_at group s.to == k) (group_at group s.from) (group_at group s.to) (border_from group k (suc j) ss) l.0 (limits_from group k (suc j) ss l.1)

-- borders are those of a list of streams
abbrev pub AreOf : List ℕ → List Stream → ℕ → List (List BorderStream) → Type 0
AreOf group ss n borders = (k : ℕ) → k < n → get_or borders k [] ≡ border_of group k ss

pub borders_few : (group : List ℕ) (ss : List Stream) (n : ℕ) (borders : List (List BorderStream)) → length ss ≤ most_streams → length borders ≡ n → AreOf group ss n borders
    → All (λ b. length b ≤ most_streams) borders
borders_few group ss n borders few each are k d lt =
    let le = length_border group k 0 ss in
    subst (λ (b : List BorderStream). length b ≤ most_streams) (sym (get_or_default borders k d [] lt ∙ are k (omega (arith, lt, each)))) (omega (arith, le, few))

pub borders_limits : (group : List ℕ) (ss : List Stream) (n : ℕ) (borders : List (List BorderStream)) → All IsWithinLimits ss → length borders ≡ n → AreOf group ss n borders
    → All (All HasLimits) borders
borders_limits group ss n borders limits each are k d lt =
    subst (λ (b : List BorderStream). All HasLimits b) (sym (get_or_default borders k d [] lt ∙ are k (omega (arith, lt, each))))
    (All-from_recursion HasLimits (border_of group k ss) (limits_from group k 0 ss (AllByRecursion-from_all IsWithinLimits ss limits)))
