-- Balanced flows that are small off the forest are small on it: the flow of a branch is a signed sum of flows off the forest.
use Rattle.std.proofs.Common.{◌≡◌, ◌∙◌, ℕ, zero, suc, ◌<◌, ◌≤◌, ℤ, pos, negsuc, ◌+ℤ◌, ◌*ℤ◌, unsigned_abs, Bool, true, false, List, [], ◌∷◌, length, Option, Some, None, IsSome, slice_get, get_or, All, refl, sym, ap, subst, inl, inr, arith}
use Rattle.std.specs.Prelude.{◌⊎◌, IfSome}
use Rattle.std.specs.List.{AllByRecursion}
use Rattle.std.proofs.lemmas.Bool.{cases_Bool}
use Rattle.std.proofs.lemmas.Int.{ints}
use Rattle.pb_fixed.specs.Sums.{item}
use Rattle.pb_fixed.proofs.Lists.{All-from_recursion, AllByRecursion-from_all, AllByRecursion-map, all_each, some_same}
use Rattle.pb_fixed.proofs.Sums.{sum_over-bound}
use Rattle.pb_graph.specs.declared.records.Meas.{Meas}
use Rattle.pb_graph.specs.declared.records.Stream.{Stream}
use Rattle.pb_graph.specs.declared.records.Member.{Member}
use Rattle.pb_graph.specs.declared.records.Class.TheVariants.{Observable}
use Rattle.pb_graph.specs.declared.records.Witness.TheVariants.{Cut}
use Rattle.pb_graph.specs.declared.records.Classified.{Classified}
use Rattle.pb_graph.specs.ProcessGraph.{ProcessGraph, IsProcessGraph, IsMeasurement, IsStream, IsWithinLimits}
use Rattle.pb_graph.specs.Balance.{brought_to, net_of, IsBalanced}
use Rattle.pb_graph.specs.Boundary.{boundary_of}
use Rattle.pb_graph.specs.Classes.{IsDetermined}
use Rattle.pb_graph.specs.Walk.{unmeasured_but}
use Rattle.pb_graph.specs.WellFormed.{IsFlow}
use Rattle.pb_graph.proofs.ReachLemmas.{some_reach}
use Rattle.pb_graph.proofs.BalanceLaws.{reach_decides}
use Rattle.pb_forest.specs.Forest.{IsForest}
use Rattle.pb_forest.specs.Flows.{AgreeOffForest, IsGivenFlow, most_given_flow}
use Rattle.pb_forest.proofs.ForestLaws.{one_balanced_law}
use Rattle.pb_gap.specs.Bounds.{IsSigned}
use Rattle.pb_gap.specs.StreamBounds.{others_times}
use Rattle.pb_gap.specs.Laws.{SumsTo}
use Rattle.pb_gap.proofs.Columns.{all_put}
use Rattle.pb_gap.proofs.MemberLists.{members_few}
use Rattle.pb_gap.proofs.StreamSums.{stream_sum}

-- ---- the same graph, in which exactly the streams off the forest are measured
abbrev mark : Bool → Option Meas
mark true = None
mark false = Some (record { value = pos 0; variance = pos 1 })

abbrev marked : List Bool → List Stream → List Stream
marked held [] = []
marked [] (s ∷ ss) = []
marked (b ∷ held) (s ∷ ss) = record { from = s.from; to = s.to; meas = mark b } ∷ marked held ss

length_marked : (held : List Bool) (ss : List Stream) → length held ≡ length ss → length (marked held ss) ≡ length ss
length_marked held [] each = refl
length_marked [] (s ∷ ss) each = absurd (omega (arith, each))
length_marked (b ∷ held) (s ∷ ss) each = ap suc (length_marked held ss (omega (arith, each)))

net_marked : (n : ℕ) (held : List Bool) (ss : List Stream) (xs : List ℤ) → length held ≡ length ss → net_of n (marked held ss) xs ≡ net_of n ss xs
net_marked n held [] xs each = refl
net_marked n [] (s ∷ ss) xs each = absurd (omega (arith, each))
net_marked n (b ∷ held) (s ∷ ss) [] each = refl
net_marked n (b ∷ held) (s ∷ ss) (x ∷ xs) each = ap (λ (z : ℤ). brought_to n s x +ℤ z) (net_marked n held ss xs (omega (arith, each)))

mark_within : (b : Bool) → IfSome (mark b) IsMeasurement
mark_within true = tt
mark_within false = record { value = omega arith; least = omega (arith, ints); greatest = omega (arith, ints) }

marked_limits : (held : List Bool) (ss : List Stream) → AllByRecursion IsWithinLimits (marked held ss)
marked_limits held [] = tt
marked_limits [] (s ∷ ss) = tt
marked_limits (b ∷ held) (s ∷ ss) = (mark_within b, marked_limits held ss)

marked_joins : (nodes : ℕ) (held : List Bool) (ss : List Stream) → AllByRecursion (IsStream nodes) ss → AllByRecursion (IsStream nodes) (marked held ss)
marked_joins nodes held [] all = tt
marked_joins nodes [] (s ∷ ss) all = tt
marked_joins nodes (b ∷ held) (s ∷ ss) all = (record { from = all.0.from; to = all.0.to; apart = all.0.apart }, marked_joins nodes held ss all.1)

-- the stream at a place
at_marked : (held : List Bool) (ss : List Stream) (k : ℕ) (t : Stream) → slice_get (marked held ss) k ≡ Some t → (k < length held) × (t.meas ≡ mark (get_or held k false))
at_marked held [] k t at = cc at
at_marked [] (s ∷ ss) k t at = cc at
at_marked (b ∷ held) (s ∷ ss) zero t at = (omega arith, sym (ap (λ (u : Stream). u.meas) (some_same at)))
at_marked (b ∷ held) (s ∷ ss) (suc k) t at = let (lt, is) = at_marked held ss k t at in (omega (arith, lt), is)

-- a stream that is measured there is off the forest
off_forest : (b : Bool) (t : Stream) → t.meas ≡ mark b → IsSome t.meas → b ≡ false
off_forest true t is some = cc (subst IsSome is some)
off_forest false t is some = refl

abbrev marked_graph : ProcessGraph → List Bool → ProcessGraph
marked_graph g held = record { nodes = g.nodes; streams = marked held g.streams }

marked_is_graph : (g : ProcessGraph) (held : List Bool) → IsProcessGraph g → IsForest g.streams held → IsProcessGraph (marked_graph g held)
marked_is_graph g held limits forest = record {
  env = limits.env;
  few_nodes = limits.few_nodes;
  few_streams = omega (arith, limits.few_streams, length_marked held g.streams forest.each);
  joins = All-from_recursion (IsStream g.nodes) (marked held g.streams) (marked_joins g.nodes held g.streams (AllByRecursion-from_all (IsStream g.nodes) g.streams limits.joins));
  limits = All-from_recursion IsWithinLimits (marked held g.streams) (marked_limits held g.streams);
}

to_marked : (g : ProcessGraph) (held : List Bool) (xs : List ℤ) → IsForest g.streams held → IsBalanced g xs → IsBalanced (marked_graph g held) xs
to_marked g held xs forest even = record {
  each = even.each ∙ sym (length_marked held g.streams forest.each);
  even = λ n lt. net_marked n held g.streams xs forest.each ∙ even.even n lt;
}

from_marked : (g : ProcessGraph) (held : List Bool) (xs : List ℤ) → IsForest g.streams held → IsBalanced (marked_graph g held) xs → IsBalanced g xs
from_marked g held xs forest even = record {
  each = even.each ∙ length_marked held g.streams forest.each;
  even = λ n lt. sym (net_marked n held g.streams xs forest.each) ∙ even.even n lt;
}

-- ---- a branch is determined by the streams off the forest, so it is a signed sum of them
there : (held : List Bool) (ss : List Stream) (k : ℕ) → k < length held → length held ≡ length ss → (t : Stream) × (slice_get (marked held ss) k ≡ Some t)
there held [] k lt each = absurd (omega (arith, lt, each))
there [] (s ∷ ss) k lt each = absurd (omega (arith, lt))
there (b ∷ held) (s ∷ ss) zero lt each = (record { from = s.from; to = s.to; meas = mark b }, refl)
there (b ∷ held) (s ∷ ss) (suc k) lt each = there held ss k (omega (arith, lt)) (omega (arith, each))

some_mark : (o : Option Meas) (b : Bool) → o ≡ mark b → b ≡ false → IsSome o
some_mark o b is off = subst IsSome (sym (is ∙ ap mark off)) refl

none_mark : (o : Option Meas) (b : Bool) → o ≡ mark b → b ≡ true → o ≡ None
none_mark o b is on = is ∙ ap mark on

determined : (g : ProcessGraph) (held : List Bool) (j : ℕ) → IsProcessGraph g → IsForest g.streams held → get_or held j false ≡ true → IsDetermined (marked_graph g held) j
determined g held j limits forest on xs ys x y agree =
    let off : AgreeOffForest held xs ys = λ k lt out.
    let (t, at) = there held g.streams k lt forest.each in
    let (within, meas) = at_marked held g.streams k t at in
    agree k t at (λ same. cc (sym on ∙ ap (λ (i : ℕ). get_or held i false) (sym same) ∙ out)) (some_mark t.meas (get_or held k false) meas out) in
    ap (λ (zs : List ℤ). item zs j) (one_balanced_law g held xs ys limits forest (from_marked g held xs forest x) (from_marked g held ys forest y) off)

branch_sum : (g : ProcessGraph) (held : List Bool) (j : ℕ) → IsProcessGraph g → IsForest g.streams held → j < length held → get_or held j false ≡ true
    → (members : List Member) × SumsTo (marked_graph g held) j members
branch_sum g held j limits forest lt on =
    let h = marked_graph g held in
    let is = marked_is_graph g held limits forest in
    let (s, at) = there held g.streams j lt forest.each in
    let joins : (k : ℕ) (t : Stream) → slice_get h.streams k ≡ Some t → IsStream g.nodes t = λ k t here. all_each (IsStream g.nodes) h.streams is.joins k t here in
    let (side, reach) = some_reach h.streams g.nodes (unmeasured_but j) s.from (joins j s at).from joins in
    let decided = reach_decides h j s side is at reach in
    let cuts = decided.cut (decided.determined.0 (determined g held j limits forest on)) in
    let members = boundary_of side h.streams in
    let c : Classified = record { class = Observable; witness = Cut side members } in
    let bare = none_mark s.meas (get_or held j false) (at_marked held g.streams j s at).1 on in
    (others_times j _ members, stream_sum h j c is (s, at, (bare, cuts)))

-- ---- small flows
pub turned : (sign x : ℤ) (b : ℕ) → (sign ≡ pos 1) ⊎ (sign ≡ negsuc 0) → unsigned_abs x ≤ b → unsigned_abs (sign *ℤ x) ≤ b
turned sign x b is small = elim is [
  | inl one ↦ subst (λ (s : ℤ). unsigned_abs (s *ℤ x) ≤ b) (sym one) (omega (arith, ints, small))
  | inr minus ↦ subst (λ (s : ℤ). unsigned_abs (s *ℤ x) ≤ b) (sym minus) (omega (arith, ints, small))
]

-- each item of a sum of a branch is a flow off the forest
part_small : (g : ProcessGraph) (held : List Bool) (flows off : List ℤ) (m : Member) → AgreeOffForest held flows off → ((k : ℕ) → IsGivenFlow (item off k))
    → IsSigned (marked_graph g held) m → unsigned_abs (m.sign *ℤ item flows m.stream) ≤ most_given_flow
part_small g held flows off m agree given is =
    let (lt, meas) = at_marked held g.streams m.stream is.stream is.is in
    let out = off_forest (get_or held m.stream false) is.stream meas (subst IsSome (sym is.measured) refl) in
    turned m.sign (item flows m.stream) most_given_flow is.sign (subst (λ (x : ℤ). unsigned_abs x ≤ most_given_flow) (sym (agree m.stream lt out)) (given m.stream))

branch_small : (g : ProcessGraph) (held : List Bool) (flows off : List ℤ) (j : ℕ) → IsProcessGraph g → IsForest g.streams held → IsBalanced g flows → AgreeOffForest held flows off
    → ((k : ℕ) → IsGivenFlow (item off k)) → j < length held → get_or held j false ≡ true → IsFlow (item flows j)
branch_small g held flows off j limits forest even agree given lt on =
    let h = marked_graph g held in
    let (members, sums) = branch_sum g held j limits forest lt on in
    let each = AllByRecursion-map (IsSigned h) (λ (m : Member). unsigned_abs (m.sign *ℤ item flows m.stream) ≤ most_given_flow) members (λ m is. part_small g held flows off m agree given is) sums.signed.each in
    let bound = sum_over-bound (λ (m : Member). m.sign *ℤ item flows m.stream) most_given_flow members each in
    let few = members_few h members sums.signed in
    let most = (marked_is_graph g held limits forest).few_streams in
    let is = sums.sum flows (to_marked g held flows forest even) in
    omega (arith, bound, few, most, ap unsigned_abs is)

pub small_flows : (g : ProcessGraph) (held : List Bool) (flows off : List ℤ) → IsProcessGraph g → IsForest g.streams held → IsBalanced g flows → AgreeOffForest held flows off
    → ((k : ℕ) → IsGivenFlow (item off k)) → All IsFlow flows
small_flows g held flows off limits forest even agree given = all_put IsFlow flows (λ j lt.
    let within : j < length held = omega (arith, lt, even.each, forest.each) in
    elim (cases_Bool (get_or held j false)) [
      | inl on ↦ branch_small g held flows off j limits forest even agree given within on
      | inr out ↦ let small = given j in let same = agree j within out in omega (arith, small, ap unsigned_abs same)
    ])
