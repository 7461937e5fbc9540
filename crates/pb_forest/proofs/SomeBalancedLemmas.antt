-- Each forest has a balanced flow vector with given flows off it: the flow of each chord circulates along the cycle of that chord.
use Rattle.std.proofs.Common.{◌≡◌, ◌≢◌, ◌∙◌, ℕ, zero, suc, ◌<◌, ◌≤◌, ℤ, pos, ◌+ℤ◌, ◌-ℤ◌, ◌*ℤ◌, Bool, true, false, cond, ◌==◌, List, [], ◌∷◌, length, Some, None, slice_get, get_or, refl, sym, ap, ap₂, subst, inl, inr, arith}
use Rattle.std.proofs.lemmas.Bool.{cases_Bool, cases_eq, ne_eqb}
use Rattle.std.proofs.lemmas.Option.{slice_get-get_or, slice_get_within}
use Rattle.pb_fixed.specs.Sums.{item}
use Rattle.pb_fixed.proofs.RingLaws.{mul_zero, add_zero}
use Rattle.pb_fixed.proofs.Ring.{lit, var, plus, times, less, ring}
use Rattle.pb_graph.specs.declared.records.Stream.{Stream}
use Rattle.pb_graph.specs.declared.records.Step.{Step}
use Rattle.pb_graph.specs.ProcessGraph.{ProcessGraph}
use Rattle.pb_graph.specs.Walk.{any_stream, ends_of, Walks}
use Rattle.pb_graph.specs.Path.{is_open}
use Rattle.pb_graph.specs.Balance.{brought_to, net_of, IsBalanced}
use Rattle.pb_graph.proofs.WalkLemmas.{ends_is, stream_of, walk_more, reach_one, reach_back}
use Rattle.pb_graph.proofs.BalanceLaws.{turns, takes, length_turns, round_net, not_taken, first_unit}
use Rattle.pb_forest.specs.Forest.{IsForest}
use Rattle.pb_forest.specs.Flows.{SomeBalancedLaw}
use Rattle.pb_forest.proofs.SpansLemmas.{spans_law}

-- ---- a vector and a multiple of another
abbrev with_times : ℤ → List ℤ → List ℤ → List ℤ
with_times c [] ys = []
with_times c (x ∷ xs) [] = x ∷ xs
with_times c (x ∷ xs) (y ∷ ys) = (x +ℤ (c *ℤ y)) ∷ with_times c xs ys

length_with : (c : ℤ) (xs ys : List ℤ) → length (with_times c xs ys) ≡ length xs
length_with c [] ys = refl
length_with c (x ∷ xs) [] = refl
length_with c (x ∷ xs) (y ∷ ys) = ap suc (length_with c xs ys)

item_with : (c : ℤ) (xs ys : List ℤ) (k : ℕ) → length xs ≡ length ys → item (with_times c xs ys) k ≡ item xs k +ℤ (c *ℤ item ys k)
item_with c [] [] k same = sym (ap (λ (z : ℤ). pos 0 +ℤ z) (mul_zero c))
item_with c [] (y ∷ ys) k same = absurd (omega (arith, same))
item_with c (x ∷ xs) [] k same = absurd (omega (arith, same))
item_with c (x ∷ xs) (y ∷ ys) zero same = refl
item_with c (x ∷ xs) (y ∷ ys) (suc k) same = item_with c xs ys k (omega (arith, same))

share_parts : (to from : Bool) (c x y : ℤ) → cond to (x +ℤ (c *ℤ y)) (pos 0) -ℤ cond from (x +ℤ (c *ℤ y)) (pos 0)
    ≡ (cond to x (pos 0) -ℤ cond from x (pos 0)) +ℤ (c *ℤ (cond to y (pos 0) -ℤ cond from y (pos 0)))
share_parts true true c x y =
    let sum = plus (var 1) (times (var 0) (var 2)) in
    ring (c ∷ x ∷ y ∷ []) (less sum sum) (plus (less (var 1) (var 1)) (times (var 0) (less (var 2) (var 2)))) refl
share_parts true false c x y =
    ring (c ∷ x ∷ y ∷ []) (less (plus (var 1) (times (var 0) (var 2))) (lit (pos 0))) (plus (less (var 1) (lit (pos 0))) (times (var 0) (less (var 2) (lit (pos 0))))) refl
share_parts false true c x y =
    ring (c ∷ x ∷ y ∷ []) (less (lit (pos 0)) (plus (var 1) (times (var 0) (var 2)))) (plus (less (lit (pos 0)) (var 1)) (times (var 0) (less (lit (pos 0)) (var 2)))) refl
share_parts false false c x y =
    ring (c ∷ []) (less (lit (pos 0)) (lit (pos 0))) (plus (less (lit (pos 0)) (lit (pos 0))) (times (var 0) (less (lit (pos 0)) (lit (pos 0))))) refl

net_with : (n : ℕ) (c : ℤ) (ss : List Stream) (xs ys : List ℤ) → length xs ≡ length ss → length ys ≡ length ss
    → net_of n ss (with_times c xs ys) ≡ net_of n ss xs +ℤ (c *ℤ net_of n ss ys)
net_with n c [] xs ys ex ey = sym (ap (λ (z : ℤ). pos 0 +ℤ z) (mul_zero c))
net_with n c (s ∷ ss) [] ys ex ey = absurd (omega (arith, ex))
net_with n c (s ∷ ss) (x ∷ xs) [] ex ey = absurd (omega (arith, ey))
net_with n c (s ∷ ss) (x ∷ xs) (y ∷ ys) ex ey =
    ap₂ (λ (a b : ℤ). a +ℤ b) (share_parts (s.to == n) (s.from == n) c x y) (net_with n c ss xs ys (omega (arith, ex)) (omega (arith, ey)))
    ∙ pairs (brought_to n s x) (brought_to n s y) (net_of n ss xs) (net_of n ss ys)
  where
    pairs : (p q u v : ℤ) → (p +ℤ (c *ℤ q)) +ℤ (u +ℤ (c *ℤ v)) ≡ (p +ℤ u) +ℤ (c *ℤ (q +ℤ v))
    pairs p q u v =
        ring (c ∷ p ∷ q ∷ u ∷ v ∷ []) (plus (plus (var 1) (times (var 0) (var 2))) (plus (var 3) (times (var 0) (var 4))))
        (plus (plus (var 1) (var 3)) (times (var 0) (plus (var 2) (var 4)))) refl

balanced_with : (graph : ProcessGraph) (c : ℤ) (xs ys : List ℤ) → IsBalanced graph xs → IsBalanced graph ys → IsBalanced graph (with_times c xs ys)
balanced_with graph c xs ys x y = record {
  each = length_with c xs ys ∙ x.each;
  even = λ n lt.
      net_with n c graph.streams xs ys x.each y.each ∙ ap₂ (λ (a b : ℤ). a +ℤ (c *ℤ b)) (x.even n lt) (y.even n lt) ∙ ap (λ (z : ℤ). pos 0 +ℤ z) (mul_zero c);
}

-- ---- one unit along the cycle of a chord
-- a walk of held streams takes no other
held_takes : (held : List Bool) (ss : List Stream) (i a b : ℕ) (steps : List Step) → Walks (ends_of (is_open held) ss) a steps b → get_or held i false ≡ false
    → takes i steps ≡ false
held_takes held ss i a b [] w out = refl
held_takes held ss i a b (t ∷ rest) (c, e, w) out =
    let (s, at, ok, goes) = stream_of (is_open held) ss t (a, c) e in
    let other : t.stream ≢ i = λ z. cc (sym ok ∙ ap (λ (k : ℕ). get_or held k false) z ∙ out) in
    rw (ne_eqb t.stream i other) (held_takes held ss i c b rest w out)

-- a balanced vector with one unit at a chord, and none at the others
record HasUnit (graph : ProcessGraph) (held : List Bool) (j : ℕ) : Type 0 where
  flows : List ℤ
  balanced : IsBalanced graph flows
  one : item flows j ≡ pos 1
  none : (k : ℕ) → k ≢ j → get_or held k false ≡ false → item flows k ≡ pos 0

some_unit : (graph : ProcessGraph) (held : List Bool) (j : ℕ) (s : Stream) → IsForest graph.streams held → slice_get graph.streams j ≡ Some s → get_or held j false ≡ false
    → HasUnit graph held j
some_unit graph held j s forest at out =
    let ss = graph.streams in
    let first : Step = record { stream = j; forward = true } in
    let e = ends_is any_stream ss j s true at refl in
    let (back, w) = reach_back (is_open held) ss s.from s.to ((spans_law ss held forest).whole s.from s.to (reach_one (ends_of any_stream ss) s.from s.to first e)) in
    let round : Walks (ends_of any_stream ss) s.from (first ∷ back) s.from = (s.to, e, walk_more (is_open held) any_stream ss s.to s.from back (λ k t here ok. refl) w) in
    record {
      flows = turns ss (first ∷ back);
      balanced = record { each = length_turns ss (first ∷ back); even = λ n lt. round_net any_stream ss n s.from (first ∷ back) round };
      one = first_unit ss j back (slice_get_within ss j s at) (held_takes held ss j s.to s.from back w out);
      none = λ k other off. not_taken ss k (first ∷ back) (rw (ne_eqb j k (λ z. other (sym z))) (held_takes held ss k s.to s.from back w off));
    }

-- ---- the flows of the first n streams, chord by chord
one_time : (x : ℤ) → pos 0 +ℤ (x *ℤ pos 1) ≡ x
one_time x = ring (x ∷ []) (plus (lit (pos 0)) (times (var 0) (lit (pos 1)))) (var 0) refl

record HasFlows (graph : ProcessGraph) (held : List Bool) (off : List ℤ) (n : ℕ) : Type 0 where
  flows : List ℤ
  balanced : IsBalanced graph flows
  agree : (k : ℕ) → k < n → get_or held k false ≡ false → item flows k ≡ item off k
  rest : (k : ℕ) → n ≤ k → get_or held k false ≡ false → item flows k ≡ pos 0

some_flows : (graph : ProcessGraph) (held : List Bool) (off : List ℤ) (n : ℕ) → IsForest graph.streams held → n ≤ length graph.streams → HasFlows graph held off n
some_flows graph held off zero forest le = record {
  flows = turns graph.streams [];
  balanced = record { each = length_turns graph.streams []; even = λ n lt. round_net any_stream graph.streams n 0 [] refl };
  agree = λ k lt out. absurd (omega (arith, lt));
  rest = λ k past out. not_taken graph.streams k [] refl;
}
some_flows graph held off (suc n) forest le =
    let less = some_flows graph held off n forest (omega (arith, le)) in
    elim (cases_Bool (get_or held n false)) [
      | inl in_it ↦ record {
        flows = less.flows;
        balanced = less.balanced;
        agree = λ k lt out. elim (cases_eq k n) [
          | inl same ↦ cc (sym in_it ∙ ap (λ (i : ℕ). get_or held i false) (sym same) ∙ out)
          | inr other ↦ less.agree k (omega (arith, lt, other)) out
        ];
        rest = λ k past out. less.rest k (omega (arith, past)) out;
      }
      | inr chord ↦
          let s : Stream = get_or graph.streams n (record { from = 0; to = 0; meas = None }) in
          let unit = some_unit graph held n s forest (slice_get-get_or graph.streams n _ (omega (arith, le))) chord in
          let x = item off n in
          let is : (k : ℕ) → item (with_times x less.flows unit.flows) k ≡ item less.flows k +ℤ (x *ℤ item unit.flows k) = λ k.
          item_with x less.flows unit.flows k (less.balanced.each ∙ sym unit.balanced.each) in
          let past_it : (k : ℕ) → k ≢ n → get_or held k false ≡ false → item (with_times x less.flows unit.flows) k ≡ item less.flows k = λ k other out.
          is k ∙ ap (λ (z : ℤ). item less.flows k +ℤ (x *ℤ z)) (unit.none k other out) ∙ ap (λ (z : ℤ). item less.flows k +ℤ z) (mul_zero x) ∙ add_zero (item less.flows k) in
          record {
            flows = with_times x less.flows unit.flows;
            balanced = balanced_with graph x less.flows unit.flows less.balanced unit.balanced;
            agree = λ k lt out. elim (cases_eq k n) [
              | inl same ↦
                  let here : item (with_times x less.flows unit.flows) n ≡ item off n =
                  is n ∙ ap₂ (λ (a b : ℤ). a +ℤ (x *ℤ b)) (less.rest n (omega arith) chord) unit.one ∙ one_time x in
                  subst (λ (i : ℕ). item (with_times x less.flows unit.flows) i ≡ item off i) (sym same) here
              | inr other ↦ past_it k other out ∙ less.agree k (omega (arith, lt, other)) out
            ];
            rest = λ k past out. past_it k (λ z. omega (arith, past, z)) out ∙ less.rest k (omega (arith, past)) out;
          }
    ]

pub some_balanced_law : SomeBalancedLaw
some_balanced_law graph held off forest =
    let made = some_flows graph held off (length graph.streams) forest (omega arith) in
    (made.flows, made.balanced, λ k lt out. made.agree k (omega (arith, lt, forest.each)) out)
