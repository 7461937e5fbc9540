-- What the streams at the border of a group add up to is what all streams add up to.
use Rattle.std.proofs.Common.{◌≡◌, ◌∙◌, ◌==◌, ◌^◌, ℕ, suc, ◌+◌, ◌<◌, ◌≤◌, ℤ, pos, neg_ℤ, ◌+ℤ◌, ◌-ℤ◌, ◌*ℤ◌, ◌≤ℤ◌, Bool, true, false, not, List, [], ◌∷◌, ◌++◌, length, get_or, take, drop, Option, Some, None, refl, sym, subst, ap, append_assoc, append-nil, arith, unsigned_abs}
use Rattle.std.specs.Prelude.{if◌then◌else◌, IfSome, is_some, nat_lt, ◌||◌}
use Rattle.std.specs.Int.{int_max, int_min}
use Rattle.std.specs.List.{AllByRecursion, list_any}
use Rattle.std.specs.Option.{option_to_list}
use Rattle.std.proofs.lemmas.Bool.{eqb-true}
use Rattle.std.proofs.lemmas.Int.{ints}
use Rattle.std.proofs.lemmas.List.{length-take-le, take_more}
use Rattle.pb_fixed.specs.Sums.{item}
use Rattle.pb_fixed.proofs.Lists.{drop_next}
use Rattle.pb_fixed.proofs.RingLaws.{zero_add}
use Rattle.pb_fixed.proofs.QuotientLaws.{floor_size}
use Rattle.pb_graph.specs.declared.records.Meas.{Meas}
use Rattle.pb_graph.specs.declared.records.Stream.{Stream}
use Rattle.pb_graph.specs.ProcessGraph.{IsMeasurement, IsWithinLimits, is_measured}
use Rattle.pb_graph.specs.Groups.{entering, group_at, has_one_end}
use Rattle.pb_graph.specs.Prices.{IsInBox, rise_of}
use Rattle.pb_graph.specs.Variance.{variance_of, crossing_variance, group_variance}
use Rattle.pb_dual.specs.declared.border.BorderStream.{BorderStream}
use Rattle.pb_dual.specs.DualValue.{flow_at, dual_flow}
use Rattle.pb_dual.specs.Moves.{group_flow}
use Rattle.pb_dual.specs.Candidates.{room_of, raised, lowered, raised_at, lowered_at, low_from, high_from}
use Rattle.pb_dual.specs.Border.{seen_of, seen_at, border_from, border_of, border_flow, border_variance, border_low, border_high, IsBorderStream}

-- one more stream
pub low_more : (prices : List ℤ) (lo : ℤ) (border : List BorderStream) (i : ℕ) (d : BorderStream) → i < length border
    → border_low prices lo (drop i border) ≡ border_low prices (int_max lo (get_or prices (get_or border i d).other (pos 0) -ℤ (get_or border i d).room)) (drop (i + 1) border)
low_more prices lo border i d lt = ap (border_low prices lo) (drop_next border i d lt)

pub high_more : (prices : List ℤ) (hi : ℤ) (border : List BorderStream) (i : ℕ) (d : BorderStream) → i < length border
    → border_high prices hi (drop i border) ≡ border_high prices (int_min hi (get_or prices (get_or border i d).other (pos 0) +ℤ (get_or border i d).room)) (drop (i + 1) border)
high_more prices hi border i d lt = ap (border_high prices hi) (drop_next border i d lt)

-- the ends of a stream that are in a group have its number
abbrev pub AreEnds : ℕ → ℕ → ℕ → Type 0
AreEnds k from to = ((from == k) ≡ true → from ≡ k) × ((to == k) ≡ true → to ≡ k)

pub are_ends : (k from to : ℕ) → AreEnds k from to
are_ends k from to = ((λ e. eqb-true from k e), (λ e. eqb-true to k e))

-- one stream, by which of its ends are in the group
flow_one : (j : ℕ) (o : Option Meas) (b a : Bool) (from to : ℕ) (d : ℤ) (flows : List ℤ) (rest : List BorderStream) → item flows j ≡ flow_at o d
    → border_flow flows (option_to_list (seen_of j o b a from to) ++ rest) ≡ entering b a (flow_at o d) +ℤ border_flow flows rest
flow_one j None true true from to d flows rest h = sym (zero_add (border_flow flows rest))
flow_one j None true false from to d flows rest h = sym (zero_add (border_flow flows rest))
flow_one j None false true from to d flows rest h = sym (zero_add (border_flow flows rest))
flow_one j None false false from to d flows rest h = sym (zero_add (border_flow flows rest))
flow_one j (Some m) true true from to d flows rest h = sym (zero_add (border_flow flows rest))
flow_one j (Some m) false true from to d flows rest h = ap (λ (x : ℤ). x +ℤ border_flow flows rest) h
flow_one j (Some m) true false from to d flows rest h = ap (λ (x : ℤ). neg_ℤ x +ℤ border_flow flows rest) h
flow_one j (Some m) false false from to d flows rest h = sym (zero_add (border_flow flows rest))

variance_one : (j : ℕ) (o : Option Meas) (b a : Bool) (from to : ℕ) (rest : List BorderStream)
    → border_variance (option_to_list (seen_of j o b a from to) ++ rest) ≡ (if (if a then not b else b) then variance_of o else pos 0) +ℤ border_variance rest
variance_one j None true true from to rest = sym (zero_add (border_variance rest))
variance_one j None true false from to rest = sym (zero_add (border_variance rest))
variance_one j None false true from to rest = sym (zero_add (border_variance rest))
variance_one j None false false from to rest = sym (zero_add (border_variance rest))
variance_one j (Some m) true true from to rest = sym (zero_add (border_variance rest))
variance_one j (Some m) true false from to rest = refl
variance_one j (Some m) false true from to rest = refl
variance_one j (Some m) false false from to rest = sym (zero_add (border_variance rest))

low_one : (j : ℕ) (o : Option Meas) (b a : Bool) (from to : ℕ) (prices : List ℤ) (lo : ℤ) (rest : List BorderStream)
    → border_low prices lo (option_to_list (seen_of j o b a from to) ++ rest)
    ≡ border_low prices (if (if a then not b else b) then raised o (if a then get_or prices from (pos 0) else get_or prices to (pos 0)) lo else lo) rest
low_one j None true true from to prices lo rest = refl
low_one j None true false from to prices lo rest = refl
low_one j None false true from to prices lo rest = refl
low_one j None false false from to prices lo rest = refl
low_one j (Some m) true true from to prices lo rest = refl
low_one j (Some m) true false from to prices lo rest = refl
low_one j (Some m) false true from to prices lo rest = refl
low_one j (Some m) false false from to prices lo rest = refl

high_one : (j : ℕ) (o : Option Meas) (b a : Bool) (from to : ℕ) (prices : List ℤ) (hi : ℤ) (rest : List BorderStream)
    → border_high prices hi (option_to_list (seen_of j o b a from to) ++ rest)
    ≡ border_high prices (if (if a then not b else b) then lowered o (if a then get_or prices from (pos 0) else get_or prices to (pos 0)) hi else hi) rest
high_one j None true true from to prices hi rest = refl
high_one j None true false from to prices hi rest = refl
high_one j None false true from to prices hi rest = refl
high_one j None false false from to prices hi rest = refl
high_one j (Some m) true true from to prices hi rest = refl
high_one j (Some m) true false from to prices hi rest = refl
high_one j (Some m) false true from to prices hi rest = refl
high_one j (Some m) false false from to prices hi rest = refl

-- prices of the groups as prices of the nodes
abbrev pub node_price : List ℕ → List ℤ → ℕ → ℤ
node_price group prices n = get_or prices (group_at group n) (pos 0)

-- the kept flows of a list of streams, of which the first is stream j, are their dual flows
abbrev pub AreKept : (ℕ → ℤ) → List ℤ → ℕ → List Stream → Type 0
AreKept price flows j [] = Unit {0}
AreKept price flows j (s ∷ ss) = (item flows j ≡ dual_flow price s) × AreKept price flows (suc j) ss

pub flow_border : (group : List ℕ) (price : ℕ → ℤ) (flows : List ℤ) (k j : ℕ) (ss : List Stream) → AreKept price flows j ss
    → border_flow flows (border_from group k j ss) ≡ group_flow group price k ss
flow_border group price flows k j [] h = refl
flow_border group price flows k j (s ∷ ss) h =
    let from = group_at group s.from in
    let to = group_at group s.to in
    flow_one j s.meas (from == k) (to == k) from to (rise_of price s) flows (border_from group k (suc j) ss) h.0
    ∙ ap (λ (x : ℤ). entering (from == k) (to == k) (dual_flow price s) +ℤ x) (flow_border group price flows k (suc j) ss h.1)

pub variance_border : (group : List ℕ) (k j : ℕ) (ss : List Stream) → border_variance (border_from group k j ss) ≡ group_variance group k ss
variance_border group k j [] = refl
variance_border group k j (s ∷ ss) =
    variance_one j s.meas (group_at group s.from == k) (group_at group s.to == k) (group_at group s.from) (group_at group s.to) (border_from group k (suc j) ss)
    ∙ ap (λ (x : ℤ). crossing_variance group k s +ℤ x) (variance_border group k (suc j) ss)

pub low_border : (group : List ℕ) (prices : List ℤ) (k j : ℕ) (lo : ℤ) (ss : List Stream) → border_low prices lo (border_from group k j ss) ≡ low_from group (node_price group prices) k lo ss
low_border group prices k j lo [] = refl
low_border group prices k j lo (s ∷ ss) =
    low_one j s.meas (group_at group s.from == k) (group_at group s.to == k) (group_at group s.from) (group_at group s.to) prices lo (border_from group k (suc j) ss) ∙ low_border group prices k (suc j) (raised_at group (node_price group prices) k s lo) ss

pub high_border : (group : List ℕ) (prices : List ℤ) (k j : ℕ) (hi : ℤ) (ss : List Stream) → border_high prices hi (border_from group k j ss) ≡ high_from group (node_price group prices) k hi ss
high_border group prices k j hi [] = refl
high_border group prices k j hi (s ∷ ss) =
    high_one j s.meas (group_at group s.from == k) (group_at group s.to == k) (group_at group s.from) (group_at group s.to) prices hi (border_from group k (suc j) ss) ∙ high_border group prices k (suc j) (lowered_at group (node_price group prices) k s hi) ss

-- there are no more streams at the border than streams
length_one : (o : Option BorderStream) (rest : List BorderStream) → length (option_to_list o ++ rest) ≤ length rest + 1
length_one None rest = omega arith
length_one (Some a) rest = omega arith

pub length_border : (group : List ℕ) (k j : ℕ) (ss : List Stream) → length (border_from group k j ss) ≤ length ss
length_border group k j [] = omega arith
length_border group k j (s ∷ ss) = let one = length_one (seen_at group k j s) (border_from group k (suc j) ss) in let rest = length_border group k (suc j) ss in omega (arith, one, rest)

-- the border of the streams of a list, and one more
pub border_push : (group : List ℕ) (k j : ℕ) (ss : List Stream) (t : Stream)
    → border_from group k j (ss ++ t ∷ []) ≡ border_from group k j ss ++ option_to_list (seen_at group k (j + length ss) t)
border_push group k j [] t = let e : j ≡ j + 0 = omega arith in append-nil (option_to_list (seen_at group k j t)) ∙ ap (λ (i : ℕ). option_to_list (seen_at group k i t)) e
border_push group k j (s ∷ ss) t =
    let e : suc j + length ss ≡ j + length (s ∷ ss) = omega arith in
    ap (λ (l : List BorderStream). option_to_list (seen_at group k j s) ++ l)
    (border_push group k (suc j) ss t ∙ ap (λ (i : ℕ). border_from group k (suc j) ss ++ option_to_list (seen_at group k i t)) e)
    ∙ sym (append_assoc (option_to_list (seen_at group k j s)) (border_from group k (suc j) ss) (option_to_list (seen_at group k (j + length (s ∷ ss)) t)))

-- the streams at the border are within their limits
abbrev Box : Option Meas → ℤ → Type 0
Box o d = IfSome o (λ m. unsigned_abs (m.variance *ℤ d) ≤ 2 ^ 112)

room_size : (v : ℤ) → pos 1 ≤ℤ v → unsigned_abs (room_of v) ≤ 2 ^ 112
room_size v h = floor_size (pos (2 ^ 112)) v (omega (arith, ints, h))

within_one : (j : ℕ) (o : Option Meas) (b a : Bool) (from to k : ℕ) (prices : List ℤ) (rest : List BorderStream) → (b ≡ true → from ≡ k) → (a ≡ true → to ≡ k) → IfSome o IsMeasurement
    → from < length prices → to < length prices → Box o (get_or prices to (pos 0) -ℤ get_or prices from (pos 0)) → AllByRecursion (IsBorderStream prices k) rest
    → AllByRecursion (IsBorderStream prices k) (option_to_list (seen_of j o b a from to) ++ rest)
within_one j None true true from to k prices rest h e m f t x r = r
within_one j None true false from to k prices rest h e m f t x r = r
within_one j None false true from to k prices rest h e m f t x r = r
within_one j None false false from to k prices rest h e m f t x r = r
within_one j (Some m) true true from to k prices rest h e l f t x r = r
within_one j (Some m) false true from to k prices rest h e l f t x r = (
  record {
    group = f;
    size = l.value;
    least = l.least;
    greatest = l.greatest;
    space = room_size m.variance l.least;
    box = subst (λ (n : ℕ). unsigned_abs (m.variance *ℤ (get_or prices n (pos 0) -ℤ get_or prices from (pos 0))) ≤ 2 ^ 112) (e refl) x;
  },
  r,
)
within_one j (Some m) true false from to k prices rest h e l f t x r = (
  record {
    group = t;
    size = l.value;
    least = l.least;
    greatest = l.greatest;
    space = room_size m.variance l.least;
    box = subst (λ (n : ℕ). unsigned_abs (m.variance *ℤ (get_or prices to (pos 0) -ℤ get_or prices n (pos 0))) ≤ 2 ^ 112) (h refl) x;
  },
  r,
)
within_one j (Some m) false false from to k prices rest h e l f t x r = r

-- a stream whose ends have groups with prices
pub record IsPlaced (group : List ℕ) (prices : List ℤ) (s : Stream) : Type 0 where
  pub from : group_at group s.from < length prices
  pub to : group_at group s.to < length prices

pub border_within : (group : List ℕ) (prices : List ℤ) (k j : ℕ) (ss : List Stream) → AllByRecursion IsWithinLimits ss → AllByRecursion (IsPlaced group prices) ss
    → AllByRecursion (IsInBox (node_price group prices)) ss → AllByRecursion (IsBorderStream prices k) (border_from group k j ss)
border_within group prices k j [] l p b = tt
border_within group prices k j (s ∷ ss) l p b =
    let from = group_at group s.from in
    let to = group_at group s.to in
    let ends = are_ends k from to in
    within_one j s.meas (from == k) (to == k) from to k prices (border_from group k (suc j) ss) ends.0 ends.1 l.0 p.0.from p.0.to b.0 (border_within group prices k (suc j) ss l.1 p.1 b.1)

-- a stream with exactly one end in a group is measured
abbrev pub IsSeen : List ℕ → ℕ → Stream → Type 0
IsSeen group k s = has_one_end group k s ≡ true → is_measured s ≡ true

some_below : {A : Type 0} (a : A) (rest : List A) → nat_lt 0 (length (a ∷ rest)) ≡ true
some_below a rest = grind arith

seen_one : (j : ℕ) (o : Option Meas) (b a : Bool) (from to : ℕ) (rest : List BorderStream) → ((if a then not b else b) ≡ true → is_some o ≡ true)
    → ((if a then not b else b) || nat_lt 0 (length rest)) ≡ nat_lt 0 (length (option_to_list (seen_of j o b a from to) ++ rest))
seen_one j None true true from to rest h = refl
seen_one j None true false from to rest h = cc (h refl)
seen_one j None false true from to rest h = cc (h refl)
seen_one j None false false from to rest h = refl
seen_one j (Some m) true true from to rest h = refl
seen_one j (Some m) true false from to rest h = sym (some_below (record { stream = j; other = to; enters = false; value = m.value; variance = m.variance; room = room_of m.variance }) rest)
seen_one j (Some m) false true from to rest h = sym (some_below (record { stream = j; other = from; enters = true; value = m.value; variance = m.variance; room = room_of m.variance }) rest)
seen_one j (Some m) false false from to rest h = refl

pub seen_is : (group : List ℕ) (k j : ℕ) (ss : List Stream) → AllByRecursion (IsSeen group k) ss → list_any (has_one_end group k) ss ≡ nat_lt 0 (length (border_from group k j ss))
seen_is group k j [] h = refl
seen_is group k j (s ∷ ss) h =
    ap (λ (b : Bool). has_one_end group k s || b) (seen_is group k (suc j) ss h.1)
    ∙ seen_one j s.meas (group_at group s.from == k) (group_at group s.to == k) (group_at group s.from) (group_at group s.to) (border_from group k (suc j) ss) h.0

-- the border with one more stream
pub border_more : (group : List ℕ) (k j : ℕ) (ss : List Stream) (d : Stream) → j < length ss
    → border_of group k (take (j + 1) ss) ≡ border_of group k (take j ss) ++ option_to_list (seen_at group k j (get_or ss j d))
border_more group k j ss d lt =
    let s = get_or ss j d in
    let e : 0 + length (take j ss) ≡ j = omega (arith, length-take-le j ss (omega (arith, lt))) in
    ap (border_of group k) (take_more ss j d lt) ∙ border_push group k 0 (take j ss) s
    ∙ ap (λ (i : ℕ). border_of group k (take j ss) ++ option_to_list (seen_at group k i s)) e
