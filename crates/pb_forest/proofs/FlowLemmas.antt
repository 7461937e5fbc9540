-- The flow of a held stream follows from the flows of the streams that aren't held, over the side that it cuts off.
use Rattle.std.proofs.Common.{◌≡◌, ◌≢◌, ◌∙◌, ℕ, zero, suc, ◌<◌, ℤ, pos, neg_ℤ, ◌+ℤ◌, ◌-ℤ◌, ◌*ℤ◌, Bool, true, false, ◌==◌, List, [], ◌∷◌, length, Some, slice_get, get_or, set, refl, sym, ap, ap₂, subst, inl, inr, arith}
use Rattle.std.proofs.lemmas.Bool.{cases_Bool, cases_eq, ne_eqb, not_from_false, and_from}
use Rattle.std.proofs.lemmas.Int.{ints}
use Rattle.std.proofs.lemmas.List.{ext_get_or, get_or-set_same, get_or-set_other}
use Rattle.std.proofs.lemmas.Option.{slice_get-get_or}
use Rattle.pb_fixed.specs.Sums.{sum_below, item}
use Rattle.pb_fixed.proofs.RingLaws.{zero_mul}
use Rattle.pb_fixed.proofs.Sums.{sum_below-same, sum_below-single}
use Rattle.pb_graph.specs.declared.records.Stream.{Stream}
use Rattle.pb_graph.specs.declared.records.Step.{Step}
use Rattle.pb_graph.specs.ProcessGraph.{ProcessGraph, IsProcessGraph, some_stream}
use Rattle.pb_graph.specs.Walk.{along, ends_of, any_stream, is_in, Reaches, IsReach}
use Rattle.pb_graph.specs.Path.{is_open}
use Rattle.pb_graph.specs.Groups.{entering}
use Rattle.pb_graph.specs.Balance.{IsBalanced}
use Rattle.pb_graph.proofs.WalkLemmas.{some_same, ends_is, stream_of, reach_one, reach_both, reach_more, walk_keeps, IsWithin}
use Rattle.pb_graph.specs.PricedSums.{priced_streams}
use Rattle.pb_graph.proofs.BalanceLaws.{balanced_sum, unit_price, side_price}
use Rattle.pb_forest.specs.Forest.{IsForest}
use Rattle.pb_forest.specs.Laws.{except}
use Rattle.pb_forest.specs.Flows.{AgreeOffForest}
use Rattle.pb_forest.specs.Balancing.{entering_of, chord_flow, crossing}
use Rattle.pb_forest.proofs.SpansLemmas.{spans_law}
use Rattle.pb_forest.proofs.AcyclicLemmas.{acyclic_law}

-- ---- sums over streams
pub sum_first : (f : ℕ → ℤ) (n : ℕ) → sum_below f (suc n) ≡ f 0 +ℤ sum_below (λ k. f (suc k)) n
sum_first f zero = omega (arith, ints)
sum_first f (suc n) = let e = sum_first f n in omega (arith, ints, e)

pub sum_below-less : (f g : ℕ → ℤ) (n : ℕ) → sum_below (λ k. f k -ℤ g k) n ≡ sum_below f n -ℤ sum_below g n
sum_below-less f g zero = refl
sum_below-less f g (suc n) = let e = sum_below-less f g n in omega (arith, ints, e)

-- what one stream adds to a sum of prices times flows
abbrev part : (ℕ → ℤ) → List Stream → List ℤ → ℕ → ℤ
part p ss xs k = (p (get_or ss k some_stream).to -ℤ p (get_or ss k some_stream).from) *ℤ item xs k

priced_is : (p : ℕ → ℤ) (ss : List Stream) (xs : List ℤ) → length xs ≡ length ss → priced_streams p ss xs ≡ sum_below (part p ss xs) (length ss)
priced_is p [] xs each = refl
priced_is p (s ∷ ss) [] each = absurd (omega (arith, each))
priced_is p (s ∷ ss) (x ∷ xs) each =
    ap (λ (z : ℤ). ((p s.to -ℤ p s.from) *ℤ x) +ℤ z) (priced_is p ss xs (omega (arith, each))) ∙ sym (sum_first (part p (s ∷ ss) (x ∷ xs)) (length ss))

-- prices that rise along no stream
pub priced_level : (q : ℕ → ℤ) (ss : List Stream) (xs : List ℤ) → ((k : ℕ) (t : Stream) → slice_get ss k ≡ Some t → q t.to ≡ q t.from) → priced_streams q ss xs ≡ pos 0
priced_level q [] xs level = refl
priced_level q (s ∷ ss) [] level = refl
priced_level q (s ∷ ss) (x ∷ xs) level =
    let same = level zero s refl in
    let none : q s.to -ℤ q s.from ≡ pos 0 = omega (arith, ints, same) in
    ap₂ (λ (a b : ℤ). (a *ℤ x) +ℤ b) none (priced_level q ss xs (λ k t at. level (suc k) t at)) ∙ ap (λ (z : ℤ). z +ℤ pos 0) (zero_mul x)

-- ---- the side of a held stream
-- the side of stream j: the nodes that its `from` end reaches over the other held streams
abbrev pub IsSideOf : ProcessGraph → List Bool → ℕ → List Bool → Type 0
IsSideOf g held j side = (s : Stream) → slice_get g.streams j ≡ Some s → IsReach (ends_of (is_open (set held j false)) g.streams) g.nodes s.from side

pub record Crosses (ss : List Stream) (held : List Bool) (j : ℕ) (side : List Bool) : Type 0 where
  pub from : (s : Stream) → slice_get ss j ≡ Some s → is_in side s.from ≡ true
  pub to : (s : Stream) → slice_get ss j ≡ Some s → is_in side s.to ≡ false
  pub others : (k : ℕ) (t : Stream) → slice_get ss k ≡ Some t → get_or held k false ≡ true → k ≢ j → is_in side t.from ≡ is_in side t.to

both_ways : (a b : Bool) → (a ≡ true → b ≡ true) → (b ≡ true → a ≡ true) → a ≡ b
both_ways true b f g = sym (f refl)
both_ways false true f g = g refl
both_ways false false f g = refl

pub crosses : (g : ProcessGraph) (held : List Bool) (j : ℕ) (side : List Bool) → IsForest g.streams held → j < length g.streams → get_or held j false ≡ true
    → IsSideOf g held j side → Crosses g.streams held j side
crosses g held j side forest lt here is =
    let ss = g.streams in
    let others = is_open (set held j false) in
    let within : j < length held = omega (arith, lt, forest.each) in
    let s0 : Stream = get_or ss j some_stream in
    let at0 : slice_get ss j ≡ Some s0 = slice_get-get_or ss j some_stream lt in
    let reach = is s0 at0 in
    let less : IsWithin ss others (except j (is_open held)) = λ k t at ok. elim (cases_eq k j) [
      | inl same ↦ cc (sym (get_or-set_same held j false false within) ∙ ap (λ (i : ℕ). get_or (set held j false) i false) (sym same) ∙ ok)
      | inr other ↦ and_from _ _ (sym (get_or-set_other held j k false false other) ∙ ok) (not_from_false (k == j) (ne_eqb k j other))
    ] in
    let apart : is_in side s0.to ≡ false = elim (cases_Bool (is_in side s0.to)) [
      | inr out ↦ out
      | inl reached ↦ absurd (acyclic_law ss held forest j s0 at0 here (reach_more others (except j (is_open held)) ss s0.from s0.to less (reach.reached s0.to reached)))
    ] in
    record {
      from = λ s at. reach.whole s.from (subst (λ (v : Stream). Reaches (ends_of others ss) s0.from v.from) (some_same (sym at0 ∙ at)) ([], refl));
      to = λ s at. subst (λ (v : Stream). is_in side v.to ≡ false) (some_same (sym at0 ∙ at)) apart;
      others = λ k t at ok ne.
          let may : others k t ≡ true = get_or-set_other held j k false false ne ∙ ok in
          let there = ends_is others ss k t true at may in
          let back = ends_is others ss k t false at may in
          both_ways (is_in side t.from) (is_in side t.to)
          (λ a. reach.whole t.to (reach_both (ends_of others ss) s0.from t.from t.to (reach.reached t.from a) (reach_one (ends_of others ss) t.from t.to (record { stream = k; forward = true }) there)))
          (λ a. reach.whole t.from (reach_both (ends_of others ss) s0.from t.to t.from (reach.reached t.to a) (reach_one (ends_of others ss) t.to t.from (record { stream = k; forward = false }) back)));
    }

-- ---- the flow of a held stream
pub enters_is : (a b : Bool) (x : ℤ) → (unit_price b -ℤ unit_price a) *ℤ x ≡ entering a b x
enters_is true true x = zero_mul x
enters_is true false x = omega (arith, ints)
enters_is false true x = omega (arith, ints)
enters_is false false x = zero_mul x

enters_none : (a b : Bool) → entering a b (pos 0) ≡ pos 0
enters_none true true = refl
enters_none true false = refl
enters_none false true = refl
enters_none false false = refl

stays : (a b : Bool) (x : ℤ) → a ≡ b → entering a b x ≡ pos 0
stays true true x e = refl
stays true false x e = cc e
stays false true x e = cc e
stays false false x e = refl

pub chord_held : (held : List Bool) (xs : List ℤ) (k : ℕ) → get_or held k false ≡ true → chord_flow held xs k ≡ pos 0
chord_held held xs k h = rw h refl

pub chord_other : (held : List Bool) (xs : List ℤ) (k : ℕ) → get_or held k false ≡ false → chord_flow held xs k ≡ item xs k
chord_other held xs k h = rw h refl

-- the sum over the streams is what the streams that aren't held bring, less the held one's flow
pub side_sum : (ss : List Stream) (held : List Bool) (j : ℕ) (side : List Bool) (xs : List ℤ) → length xs ≡ length ss → j < length ss → get_or held j false ≡ true
    → Crosses ss held j side → priced_streams (side_price side) ss xs ≡ crossing (is_in side) ss held xs (length ss) -ℤ item xs j
side_sum ss held j side xs each lt here cut =
    let f : ℕ → ℤ = part (side_price side) ss xs in
    let e : ℕ → ℤ = λ k. entering_of (is_in side) (get_or ss k some_stream) (chord_flow held xs k) in
    let other : (k : ℕ) → k < length ss → k ≢ j → f k -ℤ e k ≡ pos 0 = λ k less ne.
    let t : Stream = get_or ss k some_stream in
    let at : slice_get ss k ≡ Some t = slice_get-get_or ss k some_stream less in
    let is : f k ≡ entering_of (is_in side) t (item xs k) = enters_is (is_in side t.from) (is_in side t.to) (item xs k) in
    elim (cases_Bool (get_or held k false)) [
      | inl ok ↦
          let none : f k ≡ pos 0 = is ∙ stays (is_in side t.from) (is_in side t.to) (item xs k) (cut.others k t at ok ne) in
          let free : e k ≡ pos 0 = ap (entering_of (is_in side) t) (chord_held held xs k ok) ∙ enters_none (is_in side t.from) (is_in side t.to) in
          omega (arith, ints, none, free)
      | inr out ↦
          let same : e k ≡ f k = ap (entering_of (is_in side) t) (chord_other held xs k out) ∙ sym is in
          omega (arith, ints, same)
    ] in
    let s : Stream = get_or ss j some_stream in
    let at : slice_get ss j ≡ Some s = slice_get-get_or ss j some_stream lt in
    let own : f j ≡ neg_ℤ (item xs j) = enters_is (is_in side s.from) (is_in side s.to) (item xs j) ∙ ap₂ (λ (a b : Bool). entering a b (item xs j)) (cut.from s at) (cut.to s at) in
    let free : e j ≡ pos 0 = ap (entering_of (is_in side) s) (chord_held held xs j here) ∙ enters_none (is_in side s.from) (is_in side s.to) in
    let one : sum_below (λ k. f k -ℤ e k) (length ss) ≡ f j -ℤ e j = sum_below-single (λ k. f k -ℤ e k) (length ss) j lt other in
    let split : sum_below (λ k. f k -ℤ e k) (length ss) ≡ sum_below f (length ss) -ℤ sum_below e (length ss) = sum_below-less f e (length ss) in
    let whole : priced_streams (side_price side) ss xs ≡ sum_below f (length ss) = priced_is (side_price side) ss xs each in
    omega (arith, ints, own, free, one, split, whole)

-- vectors that agree off the forest bring the same
pub crossing_same : (inside : ℕ → Bool) (ss : List Stream) (held : List Bool) (xs ys : List ℤ) → length held ≡ length ss → AgreeOffForest held xs ys
    → crossing inside ss held xs (length ss) ≡ crossing inside ss held ys (length ss)
crossing_same inside ss held xs ys each agree =
    sum_below-same (λ k. entering_of inside (get_or ss k some_stream) (chord_flow held xs k)) (λ k. entering_of inside (get_or ss k some_stream) (chord_flow held ys k)) (length ss) (λ k less.
    ap (entering_of inside (get_or ss k some_stream)) (elim (cases_Bool (get_or held k false)) [
      | inl ok ↦ chord_held held xs k ok ∙ sym (chord_held held ys k ok)
      | inr out ↦ chord_other held xs k out ∙ agree k (omega (arith, less, each)) out ∙ sym (chord_other held ys k out)
    ]))

-- prices that rise along no held stream rise along no stream
pub level_all : (ss : List Stream) (held : List Bool) (q : ℕ → ℤ) → IsForest ss held
    → ((k : ℕ) (t : Stream) → slice_get ss k ≡ Some t → get_or held k false ≡ true → q t.to ≡ q t.from)
    → (k : ℕ) (t : Stream) → slice_get ss k ≡ Some t → q t.to ≡ q t.from
level_all ss held q forest level k t at =
    let one = reach_one (ends_of any_stream ss) t.from t.to (record { stream = k; forward = true }) (ends_is any_stream ss k t true at refl) in
    let (steps, walk) = (spans_law ss held forest).whole t.from t.to one in
    walk_keeps (ends_of (is_open held) ss) (λ n. q n ≡ q t.from) t.from t.to steps keep walk refl
  where
    ways : (s : Stream) (forward : Bool) (x y : ℕ) → along forward s ≡ (x, y) → q s.to ≡ q s.from → q y ≡ q x
    ways s true x y e is = ap (λ (r : ℕ × ℕ). q r.1) (sym e) ∙ is ∙ ap (λ (r : ℕ × ℕ). q r.0) e
    ways s false x y e is = ap (λ (r : ℕ × ℕ). q r.1) (sym e) ∙ sym is ∙ ap (λ (r : ℕ × ℕ). q r.0) e

    keep : (w : Step) (x y : ℕ) → ends_of (is_open held) ss w ≡ Some (x, y) → q x ≡ q t.from → q y ≡ q t.from
    keep w x y e is =
        let (s, here, ok, goes) = stream_of (is_open held) ss w (x, y) e in
        ways s w.forward x y goes (level w.stream s here ok) ∙ is

-- balanced vectors that agree off the forest are the same
pub balanced_one : (g : ProcessGraph) (held : List Bool) (xs ys : List ℤ) → IsProcessGraph g → IsForest g.streams held
    → ((j : ℕ) → j < length g.streams → get_or held j false ≡ true → (side : List Bool) × IsSideOf g held j side) → IsBalanced g xs → IsBalanced g ys → AgreeOffForest held xs ys → xs ≡ ys
balanced_one g held xs ys graph forest cuts bx by_ agree =
    let ss = g.streams in
    ext_get_or (pos 0) xs ys (bx.each ∙ sym by_.each) (λ j less.
    let lt : j < length ss = omega (arith, less, bx.each) in
    elim (cases_Bool (get_or held j false)) [
      | inr out ↦ agree j (omega (arith, lt, forest.each)) out
      | inl here ↦
          let (side, is) = cuts j lt here in
          let cut = crosses g held j side forest lt here is in
          let x = side_sum ss held j side xs bx.each lt here cut in
          let y = side_sum ss held j side ys by_.each lt here cut in
          let same = crossing_same (is_in side) ss held xs ys forest.each agree in
          let none = balanced_sum g (side_price side) xs graph bx in
          let none_y = balanced_sum g (side_price side) ys graph by_ in
          omega (arith, ints, x, y, same, none, none_y)
    ])
