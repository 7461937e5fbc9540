-- What the prices of the groups and their borders keep.
use Rattle.std.proofs.Common.{◌≡◌, ◌≢◌, ◌∙◌, ◌==◌, ◌^◌, ◌*◌, ℕ, zero, suc, ◌<◌, ◌≤◌, ℤ, pos, neg_ℤ, ◌-ℤ◌, ◌≤ℤ◌, ◌<ℤ◌, Bool, true, not, List, [], ◌∷◌, length, map, get_or, set, replicate, refl, sym, subst, ap, ap₂, inl, inr, arith, unsigned_abs, length-set}
use Rattle.std.specs.Prelude.{◌&&◌, int_lt, nat_lt}
use Rattle.std.specs.Int.{int_max}
use Rattle.std.specs.List.{All, AllByRecursion, list_any}
use Rattle.pb_limits.specs.Limits.{most_streams, most_variance}
use Rattle.std.proofs.lemmas.Bool.{cases_eq, eq-eqb, ne_eqb, and_parts}
use Rattle.std.proofs.lemmas.Grind.{get_or-set_at}
use Rattle.std.proofs.lemmas.Int.{int_max_is, ints}
use Rattle.std.proofs.lemmas.List.{get_or_default, get_or-set_other, length-map}
use Rattle.std.proofs.lemmas.Option.{slice_get-get_or}
use Rattle.pb_fixed.proofs.Lists.{AllByRecursion-from_all, All-from_recursion}
use Rattle.pb_fixed.proofs.Order.{le_trans}
use Rattle.pb_fixed.proofs.Sums.{sum_over-bound}
use Rattle.pb_fixed.specs.Quotients.{nearest_div}
use Rattle.pb_fixed.proofs.QuotientLaws.{nearest_is}
use Rattle.pb_graph.specs.declared.records.Stream.{Stream}
use Rattle.pb_graph.specs.ProcessGraph.{ProcessGraph, IsProcessGraph, IsWithinLimits}
use Rattle.pb_graph.specs.Groups.{AreGroups, group_at, group_count, has_one_end, is_free_group}
use Rattle.pb_graph.specs.Prices.{PricesFit, IsInBox}
use Rattle.pb_graph.specs.Variance.{group_variance}
use Rattle.pb_graph.proofs.GroupLaws.{number_below, number_node, numbers_below, first_number, crossing_measured, crossings_add, crossed_is}
use Rattle.pb_dual.specs.declared.border.BorderStream.{BorderStream}
use Rattle.pb_dual.specs.DualValue.{dual_flow, dual_flows_of, dual_value, most_dual_flow}
use Rattle.pb_dual.specs.Moves.{with_price, group_flow, FallsAlong}
use Rattle.pb_dual.specs.Best.{clamped}
use Rattle.pb_dual.specs.Candidates.{least_candidate, greatest_candidate, best_price}
use Rattle.pb_dual.specs.Border.{border_of, border_flow, border_variance, border_room, border_low, border_high, AreBorder, AreBorders, HasLimits, AreSameElsewhere, HaveFlows, IsBorderStream, IsDual, IsGreatest, IsPriced}
use Rattle.pb_dual.specs.Priced.{Priced, price_of}
use Rattle.pb_dual.specs.Laws.{CanMove}
use Rattle.pb_dual.proofs.BestLaws.{best_is_nearest}
use Rattle.pb_dual.proofs.MoveLaws.{falls_along}
use Rattle.pb_dual.proofs.FitLaws.{best_fits, best_up, node_of, old_is, with_at}
use Rattle.pb_dual.proofs.SweepLaws.{zero_fits}
use Rattle.pb_dual.proofs.BorderLemmas.{IsPlaced, IsSeen, border_within, flow_border, high_border, length_border, low_border, seen_is, variance_border}
use Rattle.pb_dual.proofs.FlowLemmas.{border_there, flows_kept, flows_small, have_flows, limits_from, map_item, same_elsewhere}

-- each group's price is small
pub price_small : (d : Priced) (k : ℕ) → IsPriced d → k < length d.prices → unsigned_abs (get_or d.prices k (pos 0)) ≤ 2 ^ 120
price_small d k h lt =
    let (n, n_lt, is) = number_node d.graph d.group k h.groups (omega (arith, lt, h.each)) in
    subst (λ (j : ℕ). unsigned_abs (get_or d.prices j (pos 0)) ≤ 2 ^ 120) is (h.fit.within n n_lt)

pub prices_small : (d : Priced) → IsPriced d → All (λ p. unsigned_abs p ≤ 2 ^ 120) d.prices
prices_small d h k e lt = let small = price_small d k h lt in subst (λ (p : ℤ). unsigned_abs p ≤ 2 ^ 120) (sym (get_or_default d.prices k e (pos 0) lt)) small

pub numbers_priced : (d : Priced) → IsPriced d → All (λ k. k < length d.prices) d.group
numbers_priced d h j e lt = let below = numbers_below d.group j e lt in omega (arith, below, h.each)

placed : (d : Priced) → IsPriced d → AllByRecursion (IsPlaced d.group d.prices) d.graph.streams
placed d h = AllByRecursion-from_all (IsPlaced d.group d.prices) d.graph.streams (λ j e lt.
    let ends = h.limits.joins j e lt in
    let at = λ (n : ℕ) (n_lt : n < d.graph.nodes). let below = number_below d.group n (omega (arith, n_lt, h.groups.each)) in let few : group_at d.group n < length d.prices = omega (arith, below, h.each) in few in
    record { from = at (get_or d.graph.streams j e).from ends.from; to = at (get_or d.graph.streams j e).to ends.to })

-- the streams at the border of a group are within their limits, and not too many
pub border_fit : (d : Priced) (k : ℕ) → IsPriced d → All (IsBorderStream d.prices k) (border_of d.group k d.graph.streams)
border_fit d k h =
    let limits = AllByRecursion-from_all IsWithinLimits d.graph.streams h.limits.limits in
    let box = AllByRecursion-from_all (IsInBox (price_of d)) d.graph.streams h.fit.box in
    All-from_recursion (IsBorderStream d.prices k) (border_of d.group k d.graph.streams) (border_within d.group d.prices k 0 d.graph.streams limits (placed d h) box)

pub border_few : (d : Priced) (k : ℕ) → IsPriced d → length (border_of d.group k d.graph.streams) ≤ most_streams
border_few d k h = let le = length_border d.group k 0 d.graph.streams in omega (arith, le, h.limits.few_streams)

-- a group is free if it isn't the first and has a border
pub free_by_border : (d : Priced) (k : ℕ) → IsPriced d → is_free_group d.group d.graph.streams k ≡ (not (0 == k) && nat_lt 0 (length (border_of d.group k d.graph.streams)))
free_by_border d k h =
    let seen = AllByRecursion-from_all (IsSeen d.group k) d.graph.streams (λ j e lt one.
    crossing_measured d.graph d.group k j (get_or d.graph.streams j e) h.groups (h.limits.joins j e lt) (slice_get-get_or d.graph.streams j e lt) one) in
    ap₂ (λ (x : ℕ) (b : Bool). not (x == k) && b) (first_number d.graph d.group h.groups h.limits.env) (seen_is d.group k 0 d.graph.streams seen)

-- a free group has some variance
pub free_positive : (d : Priced) (k : ℕ) → IsPriced d → is_free_group d.group d.graph.streams k ≡ true → pos 0 <ℤ border_variance (border_of d.group k d.graph.streams)
free_positive d k h free =
    let parts = and_parts (not (group_at d.group 0 == k)) (list_any (has_one_end d.group k) d.graph.streams) free in
    let adds = crossings_add d.graph d.group k h.groups h.limits.joins h.limits.limits in
    let above = above_zero (group_variance d.group k d.graph.streams) (sym (crossed_is d.group k d.graph.streams adds) ∙ parts.1) in
    subst (λ (x : ℤ). pos 0 <ℤ x) (sym (variance_border d.group k 0 d.graph.streams)) above
  where
    above_zero : (x : ℤ) → int_lt (pos 0) x ≡ true → pos 0 <ℤ x
    above_zero x e = omega (arith, ints, e)

-- the price that the passes give is the best one
pub nearest_is_best : (d : Priced) (flows : List ℤ) (k : ℕ) → IsPriced d → flows ≡ dual_flows_of (price_of d) d.graph.streams → is_free_group d.group d.graph.streams k ≡ true
    → best_price d.group (price_of d) k d.graph.streams
    ≡ clamped (border_low d.prices (neg_ℤ (pos (2 ^ 120))) (border_of d.group k d.graph.streams)) (border_high d.prices (pos (2 ^ 120)) (border_of d.group k d.graph.streams))
    (get_or d.prices k (pos 0) -ℤ nearest_div (border_flow flows (border_of d.group k d.graph.streams)) (border_variance (border_of d.group k d.graph.streams)))
nearest_is_best d flows k h are free =
    let g = d.graph in
    let ss = d.graph.streams in
    let border = border_of d.group k ss in
    let price = price_of d in
    let old = get_or d.prices k (pos 0) in
    let value = λ (c : ℤ). dual_value (with_price d.group price k c) ss in
    let n = border_flow flows border in
    let a = border_variance border in
    let can : CanMove g d.group price k = record { limits = h.limits; groups = h.groups; fit = h.fit; free = free } in
    let (m, lt, is) = node_of g d.group k h.limits free in
    let has = old_is g d.group price k old can m lt is (ap (λ (j : ℕ). get_or d.prices j (pos 0)) is) in
    let law : FallsAlong value old (group_flow d.group price k ss) (group_variance d.group k ss) =
    subst (λ (p : ℕ → ℤ). FallsAlong value old (group_flow d.group p k ss) (group_variance d.group k ss)) has.own (falls_along d.group price k old ss) in
    let falls : FallsAlong value old n a =
    subst (λ (x : ℤ). FallsAlong value old x a) (sym (flow_border d.group price flows k 0 ss (flows_kept price flows ss are)))
    (subst (λ (x : ℤ). FallsAlong value old (group_flow d.group price k ss) x) (sym (variance_border d.group k 0 ss)) law) in
    let positive = free_positive d k h free in
    let order = le_trans (least_candidate d.group price k ss) old (greatest_candidate d.group price k ss) has.low has.high in
    best_is_nearest value (least_candidate d.group price k ss) (greatest_candidate d.group price k ss) old n a (nearest_div n a) falls positive order (nearest_is n a positive)
    ∙ ap₂ (λ (x y : ℤ). clamped x y (old -ℤ nearest_div n a)) (sym (low_border d.group d.prices k 0 (neg_ℤ (pos (2 ^ 120))) ss)) (sym (high_border d.group d.prices k 0 (pos (2 ^ 120)) ss))

-- writing a group's price moves the prices of its nodes
pub set_price : (d : Priced) (k : ℕ) (c : ℤ) → k < length d.prices → price_of (record d { prices = set d.prices k c }) ≡ with_price d.group (price_of d) k c
set_price d k c lt = λ i n. at n i
  where
    at : (n : ℕ) → get_or (set d.prices k c) (group_at d.group n) (pos 0) ≡ with_price d.group (price_of d) k c n
    at n = elim (cases_eq (group_at d.group n) k) [
      | inl same ↦ rw (eq-eqb (group_at d.group n) k same) (get_or-set_at d.prices k (group_at d.group n) c (pos 0) same lt)
      | inr other ↦ rw (ne_eqb (group_at d.group n) k other) (get_or-set_other d.prices k (group_at d.group n) c (pos 0) other)
    ]

-- what is kept with prices of 0
pub zero_price : (d : Priced) → ((k : ℕ) → get_or d.prices k (pos 0) ≡ pos 0) → price_of d ≡ (λ (n : ℕ). pos 0)
zero_price d none = λ i n. none (group_at d.group n) i

zero_greatest : (prices : List ℤ) → ((k : ℕ) → get_or prices k (pos 0) ≡ pos 0) → IsGreatest (pos 0) prices
zero_greatest prices none = record {
  from = omega (arith, ints);
  to = omega (arith, ints);
  above = λ k e lt. subst (λ (p : ℤ). pos (unsigned_abs p) ≤ℤ pos 0) (sym (get_or_default prices k e (pos 0) lt ∙ none k)) (omega (arith, ints));
}

pub zero_dual : (g : ProcessGraph) (group : List ℕ) (prices flows variances rooms : List ℤ) (borders : List (List BorderStream)) → IsProcessGraph g → AreGroups g group
    → length prices ≡ group_count group → ((k : ℕ) → get_or prices k (pos 0) ≡ pos 0) → flows ≡ dual_flows_of (λ n. pos 0) g.streams → AreBorders group g.streams borders variances rooms
    → IsDual (record { graph = g; group = group; prices = prices }) flows borders variances rooms (pos 0)
zero_dual g group prices flows variances rooms borders limits groups each none are at =
    let d : Priced = record { graph = g; group = group; prices = prices } in
    record {
      priced = record { limits = limits; groups = groups; each = each; fit = subst (PricesFit g) (sym (zero_price d none)) (zero_fits g) };
      kept = are ∙ ap (λ (p : ℕ → ℤ). dual_flows_of p g.streams) (sym (zero_price d none));
      around = at;
      most = zero_greatest prices none;
    }

-- a list of zeros
pub get_zero : (n k : ℕ) → get_or (replicate n (pos 0)) k (pos 0) ≡ pos 0
get_zero zero k = refl
get_zero (suc n) zero = refl
get_zero (suc n) (suc k) = get_zero n k

-- the greatest price, after one is written
greater_set : (prices : List ℤ) (k : ℕ) (c greatest : ℤ) → k < length prices → IsGreatest greatest prices → unsigned_abs c ≤ 2 ^ 120 → IsGreatest (int_max greatest (pos (unsigned_abs c))) (set prices k c)
greater_set prices k c greatest lt h small = record {
  from = omega (arith, ints, h.from, int_max_is greatest (pos (unsigned_abs c)));
  to = omega (arith, ints, h.to, small, int_max_is greatest (pos (unsigned_abs c)));
  above = λ j e j_lt. subst (λ (p : ℤ). pos (unsigned_abs p) ≤ℤ int_max greatest (pos (unsigned_abs c))) (sym (get_or_default (set prices k c) j e (pos 0) j_lt)) (at j (omega (arith, j_lt, length-set prices k c)));
}
  where
    at : (j : ℕ) → j < length prices → pos (unsigned_abs (get_or (set prices k c) j (pos 0))) ≤ℤ int_max greatest (pos (unsigned_abs c))
    at j j_lt = elim (cases_eq j k) [
      | inl same ↦ subst (λ (p : ℤ). pos (unsigned_abs p) ≤ℤ int_max greatest (pos (unsigned_abs c))) (sym (get_or-set_at prices k j c (pos 0) same lt)) (omega (arith, ints, int_max_is greatest (pos (unsigned_abs c))))
      | inr other ↦
          let before = h.above j (pos 0) j_lt in
          subst (λ (p : ℤ). pos (unsigned_abs p) ≤ℤ int_max greatest (pos (unsigned_abs c))) (sym (get_or-set_other prices k j c (pos 0) other)) (omega (arith, ints, before, int_max_is greatest (pos (unsigned_abs c))))
    ]

-- a group's price moved, in what is kept: its border's dual flows are those of the new price, and no others change
pub moved_priced : (d : Priced) (k : ℕ) (c : ℤ) → IsPriced d → k < group_count d.group → PricesFit d.graph (with_price d.group (price_of d) k c) → IsPriced (record d { prices = set d.prices k c })
moved_priced d k c h lt fit = record {
  limits = h.limits;
  groups = h.groups;
  each = rw length-set h.each;
  fit = subst (PricesFit d.graph) (sym (set_price d k c (omega (arith, lt, h.each)))) fit;
}

-- what is written at the border is all that changes
pub moved_flows : (d : Priced) (flows new : List ℤ) (k : ℕ) (c : ℤ) → flows ≡ dual_flows_of (price_of d) d.graph.streams
    → ((others : List ℤ) → length others ≡ length flows → HaveFlows (set d.prices k c) k (border_of d.group k d.graph.streams) others → AreSameElsewhere (border_of d.group k d.graph.streams) flows others → new ≡ others)
    → new ≡ dual_flows_of (price_of (record d { prices = set d.prices k c })) d.graph.streams
moved_flows d flows new k c are written =
    let ss = d.graph.streams in
    let e : Priced = record d { prices = set d.prices k c } in
    let target = dual_flows_of (price_of e) ss in
    let size : length target ≡ length flows = length-map ss (dual_flow (price_of e)) ∙ sym (ap length are ∙ length-map ss (dual_flow (price_of d))) in
    written target size (have_flows d.group e.prices target k 0 ss (flows_kept (price_of e) target ss refl))
    (subst (λ (us : List ℤ). AreSameElsewhere (border_of d.group k ss) us target) (sym are)
    (same_elsewhere d.group d.prices e.prices k ss (λ g ne. sym (get_or-set_other d.prices k g c (pos 0) ne))))

pub moved_dual : (d : Priced) (flows new variances rooms : List ℤ) (borders : List (List BorderStream)) (greatest greater : ℤ) (k : ℕ) (c : ℤ) → IsDual d flows borders variances rooms greatest
    → k < group_count d.group → PricesFit d.graph (with_price d.group (price_of d) k c) → unsigned_abs c ≤ 2 ^ 120 → greater ≡ int_max greatest (pos (unsigned_abs c))
    → ((others : List ℤ) → length others ≡ length flows → HaveFlows (set d.prices k c) k (border_of d.group k d.graph.streams) others → AreSameElsewhere (border_of d.group k d.graph.streams) flows others → new ≡ others)
    → IsDual (record d { prices = set d.prices k c }) new borders variances rooms greater
moved_dual d flows new variances rooms borders greatest greater k c h lt fit small is written = record {
  priced = moved_priced d k c h.priced lt fit;
  kept = moved_flows d flows new k c h.kept written;
  around = h.around;
  most = subst (λ (x : ℤ). IsGreatest x (set d.prices k c)) (sym is) (greater_set d.prices k c greatest (omega (arith, lt, h.priced.each)) h.most small);
}

pub can_move : (d : Priced) (k : ℕ) → IsPriced d → is_free_group d.group d.graph.streams k ≡ true → CanMove d.graph d.group (price_of d) k
can_move d k h free = record { limits = h.limits; groups = h.groups; fit = h.fit; free = free }

-- the kept dual flows are small
pub kept_small : (d : Priced) (flows : List ℤ) → IsPriced d → flows ≡ dual_flows_of (price_of d) d.graph.streams → All (λ u. unsigned_abs u ≤ most_dual_flow) flows
kept_small d flows h are =
    subst (λ (us : List ℤ). All (λ u. unsigned_abs u ≤ most_dual_flow) us) (sym are) (flows_small (price_of d) d.graph.streams h.limits.limits h.fit.box)

-- ---- what is read of what is kept
pub border_at : (group : List ℕ) (ss : List Stream) (borders : List (List BorderStream)) (variances rooms : List ℤ) (k : ℕ) (x : List BorderStream) → AreBorders group ss borders variances rooms
    → k < group_count group → x ≡ get_or borders k x → x ≡ border_of group k ss
border_at group ss borders variances rooms k x h lt is =
    let below : k < length borders = omega (arith, lt, h.each) in
    is ∙ get_or_default borders k x [] below ∙ h.are k below

number_at : (f : List BorderStream → ℤ) (group : List ℕ) (ss : List Stream) (borders : List (List BorderStream)) (numbers : List ℤ) (k : ℕ) (x : ℤ) → numbers ≡ map f borders → k < length borders
    → get_or borders k [] ≡ border_of group k ss → x ≡ get_or numbers k x → x ≡ f (border_of group k ss)
number_at f group ss borders numbers k x are lt border is =
    let below : k < length numbers = omega (arith, lt, ap length are, length-map borders f) in
    is ∙ get_or_default numbers k x (pos 0) below ∙ ap (λ (xs : List ℤ). get_or xs k (pos 0)) are ∙ map_item f borders k [] lt ∙ ap f border

pub variance_at : (group : List ℕ) (ss : List Stream) (borders : List (List BorderStream)) (variances rooms : List ℤ) (k : ℕ) (x : ℤ) → AreBorders group ss borders variances rooms
    → k < group_count group → x ≡ get_or variances k x → x ≡ border_variance (border_of group k ss)
variance_at group ss borders variances rooms k x h lt is =
    let below : k < length borders = omega (arith, lt, h.each) in
    number_at border_variance group ss borders variances k x h.variance below (h.are k below) is

pub room_at : (group : List ℕ) (ss : List Stream) (borders : List (List BorderStream)) (variances rooms : List ℤ) (k : ℕ) (x : ℤ) → AreBorders group ss borders variances rooms
    → k < group_count group → x ≡ get_or rooms k x → x ≡ border_room (pos (2 ^ 112)) (border_of group k ss)
room_at group ss borders variances rooms k x h lt is =
    let below : k < length borders = omega (arith, lt, h.each) in
    number_at (border_room (pos (2 ^ 112))) group ss borders rooms k x h.room below (h.are k below) is

-- the border of a group is within its limits
pub are_border : (d : Priced) (k : ℕ) → IsPriced d → AreBorder d.prices k (border_of d.group k d.graph.streams)
are_border d k h = record { few = border_few d k h; each = border_fit d k h }

-- the streams at it have kept flows
pub at_border : (d : Priced) (flows : List ℤ) (k : ℕ) → flows ≡ dual_flows_of (price_of d) d.graph.streams → All (λ a. a.stream < length flows) (border_of d.group k d.graph.streams)
at_border d flows k are = border_there d.group k (length flows) d.graph.streams (sym (ap length are ∙ length-map d.graph.streams (dual_flow (price_of d))))

-- how great its variance is
each_small : (xs : List BorderStream) → AllByRecursion HasLimits xs → AllByRecursion (λ a. unsigned_abs a.variance ≤ most_variance) xs
each_small [] h = tt
each_small (x ∷ xs) h = let small = one_small x.variance h.0.least h.0.greatest in (small, each_small xs h.1)
  where
    one_small : (v : ℤ) → pos 1 ≤ℤ v → v ≤ℤ pos most_variance → unsigned_abs v ≤ most_variance
    one_small v l g = omega (arith, ints, l, g)

pub variance_small : (d : Priced) (k : ℕ) → IsPriced d → border_variance (border_of d.group k d.graph.streams) <ℤ pos (2 ^ 125)
variance_small d k h =
    let border = border_of d.group k d.graph.streams in
    let limits = limits_from d.group k 0 d.graph.streams (AllByRecursion-from_all IsWithinLimits d.graph.streams h.limits.limits) in
    small (border_variance border) (length border) (sum_over-bound (λ (a : BorderStream). a.variance) most_variance border (each_small border limits)) (border_few d k h)
  where
    small : (v : ℤ) (n : ℕ) → unsigned_abs v ≤ n * most_variance → n ≤ most_streams → v <ℤ pos (2 ^ 125)
    small v n h few = omega (arith, ints, h, few)

-- a price is the best one of a free group
pub record IsRise (d : Priced) (k : ℕ) (c : ℤ) : Type 0 where
  pub value : c ≡ best_price d.group (price_of d) k d.graph.streams
  pub small : unsigned_abs c ≤ 2 ^ 120
  pub fit : PricesFit d.graph (with_price d.group (price_of d) k c)
  pub up : dual_value (price_of d) d.graph.streams ≤ℤ dual_value (with_price d.group (price_of d) k c) d.graph.streams

pub is_rise : (d : Priced) (k : ℕ) (c : ℤ) → IsPriced d → is_free_group d.group d.graph.streams k ≡ true → c ≡ best_price d.group (price_of d) k d.graph.streams → IsRise d k c
is_rise d k c h free is =
    let can = can_move d k h free in
    let fits = best_fits d.graph d.group (price_of d) k can in
    let (n, lt, at) = node_of d.graph d.group k h.limits free in
    subst (IsRise d k) (sym is) (record {
      value = refl;
      small = subst (λ (x : ℤ). unsigned_abs x ≤ 2 ^ 120) (with_at d.group (price_of d) k (best_price d.group (price_of d) k d.graph.streams) n at) (fits.within n lt);
      fit = fits;
      up = best_up d.graph d.group (price_of d) k can;
    })

-- the parts of the best price, as they are read
pub by_parts : (d : Priced) (flows us ps : List ℤ) (k : ℕ) (border : List BorderStream) (p v n x r : ℤ) → IsPriced d → flows ≡ dual_flows_of (price_of d) d.graph.streams
    → is_free_group d.group d.graph.streams k ≡ true → border ≡ border_of d.group k d.graph.streams → us ≡ flows → ps ≡ d.prices → p ≡ get_or d.prices k (pos 0)
    → v ≡ border_variance (border_of d.group k d.graph.streams) → n ≡ border_flow us border → x ≡ p -ℤ nearest_div n v
    → r ≡ clamped (border_low ps (neg_ℤ (pos (2 ^ 120))) border) (border_high ps (pos (2 ^ 120)) border) x → IsRise d k r
by_parts d flows us ps k border p v n x r h are free border_is us_is ps_is p_is v_is n_is x_is is =
    let own = border_of d.group k d.graph.streams in
    let low = border_low d.prices (neg_ℤ (pos (2 ^ 120))) own in
    let high = border_high d.prices (pos (2 ^ 120)) own in
    is_rise d k r h free (
    is
    ∙ ap₂ (λ (qs : List ℤ) (b : List BorderStream). clamped (border_low qs (neg_ℤ (pos (2 ^ 120))) b) (border_high qs (pos (2 ^ 120)) b) x) ps_is border_is
    ∙ ap (clamped low high) (x_is ∙ ap₂ (λ (y q : ℤ). y -ℤ q) p_is (ap₂ nearest_div (n_is ∙ ap₂ border_flow us_is border_is) v_is))
    ∙ sym (nearest_is_best d flows k h are free))

-- what is written at the border of a group, as it is read
abbrev pub Writes : List ℤ → List ℤ → List BorderStream → ℕ → List ℤ → Type 0
Writes ps us border k new = (others : List ℤ) → length others ≡ length us → HaveFlows ps k border others → AreSameElsewhere border us others → new ≡ others

pub writes : (ps qs us vs : List ℤ) (a b : List BorderStream) (k : ℕ) (new : List ℤ) → ps ≡ qs → us ≡ vs → a ≡ b → Writes ps us a k new → Writes qs vs b k new
writes ps qs us vs a b k new p u e h =
    subst (λ (c : List BorderStream). Writes qs vs c k new) e (subst (λ (ws : List ℤ). Writes qs ws a k new) u (subst (λ (rs : List ℤ). Writes rs us a k new) p h))

-- prices that differ at a group differ
pub apart : (d e : Priced) (k : ℕ) → AreGroups d.graph d.group → e.group ≡ d.group → k < group_count d.group → get_or e.prices k (pos 0) ≢ get_or d.prices k (pos 0) → price_of e ≢ price_of d
apart d e k groups group lt ne same =
    let (n, n_lt, is) = number_node d.graph d.group k groups lt in
    let at : group_at e.group n ≡ k = ap (λ (ks : List ℕ). group_at ks n) group ∙ is in
    ne (ap (λ (i : ℕ). get_or e.prices i (pos 0)) (sym at) ∙ ap (λ (p : ℕ → ℤ). p n) same ∙ ap (λ (i : ℕ). get_or d.prices i (pos 0)) is)
