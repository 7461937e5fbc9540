-- For each list of errors there are balanced flows that, added to a multiple of it, make it orthogonal to all balanced flows: chord by
-- chord of the spanning forest, by the method of Gram and Schmidt in whole numbers.
use Rattle.std.proofs.Common.{◌≡◌, ◌∙◌, ℕ, zero, suc, ◌<◌, ◌≤◌, ℤ, pos, neg_ℤ, ◌+ℤ◌, ◌*ℤ◌, ◌≤ℤ◌, Bool, true, false, List, [], ◌∷◌, length, get_or, refl, sym, ap, ap₂, inl, inr, arith}
use Rattle.std.proofs.lemmas.Bool.{cases_Bool, cases_eq}
use Rattle.std.proofs.lemmas.Int.{by_lt_z, ints}
use Rattle.pb_fixed.specs.Sums.{item}
use Rattle.pb_fixed.proofs.Order.{mul_cancel_eq, mul_mono_both}
use Rattle.pb_fixed.proofs.Ring.{var, lit, plus, times, minus, ring}
use Rattle.pb_graph.specs.ProcessGraph.{ProcessGraph, IsProcessGraph}
use Rattle.pb_graph.specs.Balance.{IsBalanced}
use Rattle.pb_graph.specs.Squares.{variance_product, inner_product}
use Rattle.pb_forest.specs.Forest.{IsForest}
use Rattle.pb_forest.proofs.ForestLaws.{some_balanced_law, one_balanced_law}
use Rattle.pb_gap.specs.Least.{combination}
use Rattle.pb_least.proofs.CombinationLemmas.{combined_none, item_combination, balanced_combination}
use Rattle.pb_least.proofs.InnerProductLemmas.{HaveWeights, inner_left, inner_right, inner_nonneg, inner_none}

-- a process graph with its spanning forest, and what is known of them
pub record Setting : Type 0 where
  pub graph : ProcessGraph
  pub held : List Bool
  pub limits : IsProcessGraph graph
  pub forest : IsForest graph.streams held
  pub weights : HaveWeights (variance_product graph.streams) graph.streams

abbrev pub inner : ProcessGraph → List ℤ → List ℤ → ℤ
inner graph xs ys = inner_product (variance_product graph.streams) graph.streams xs ys

-- ---- balanced flows that are 0 on each chord from place n on
pub record IsOnChordsBefore (t : Setting) (n : ℕ) (flows : List ℤ) : Type 0 where
  pub balanced : IsBalanced t.graph flows
  pub rest : (k : ℕ) → n ≤ k → k < length t.held → get_or t.held k false ≡ false → item flows k ≡ pos 0

on_more : (t : Setting) (n : ℕ) (flows : List ℤ) → IsOnChordsBefore t n flows → IsOnChordsBefore t (suc n) flows
on_more t n flows h = record { balanced = h.balanced; rest = λ k past lt out. h.rest k (omega (arith, past)) lt out }

combined : (t : Setting) (n : ℕ) (a b : ℤ) (xs ys : List ℤ) → IsOnChordsBefore t n xs → IsOnChordsBefore t n ys → IsOnChordsBefore t n (combination a b xs ys)
combined t n a b xs ys h k = record {
  balanced = balanced_combination t.graph a b xs ys t.limits h.balanced k.balanced;
  rest = λ j past lt out.
      item_combination a b xs ys j (h.balanced.each ∙ sym k.balanced.each) ∙ combined_none a b (item xs j) (item ys j) (h.rest j past lt out) (k.rest j past lt out);
}

left : (t : Setting) (a b : ℤ) (xs ys es : List ℤ) → length xs ≡ length t.graph.streams → length ys ≡ length t.graph.streams
    → inner t.graph (combination a b xs ys) es ≡ (a *ℤ inner t.graph xs es) +ℤ (b *ℤ inner t.graph ys es)
left t a b xs ys es h k = inner_left (variance_product t.graph.streams) a b t.graph.streams xs ys es h k

right : (t : Setting) (a b : ℤ) (es xs ys : List ℤ) → length xs ≡ length t.graph.streams → length ys ≡ length t.graph.streams
    → inner t.graph es (combination a b xs ys) ≡ (a *ℤ inner t.graph es xs) +ℤ (b *ℤ inner t.graph es ys)
right t a b es xs ys h k = inner_right (variance_product t.graph.streams) a b t.graph.streams es xs ys h k

-- those that are 0 on each chord have inner product 0 with all errors
none_without_chords : (t : Setting) (es ys : List ℤ) → IsOnChordsBefore t 0 ys → inner t.graph es ys ≡ pos 0
none_without_chords t es ys h =
    let none = combined t 0 (pos 0) (pos 0) ys ys h h in
    let is : ys ≡ combination (pos 0) (pos 0) ys ys =
    one_balanced_law t.graph t.held ys (combination (pos 0) (pos 0) ys ys) t.limits t.forest h.balanced none.balanced
    (λ k lt out. h.rest k (omega arith) lt out ∙ sym (none.rest k (omega arith) lt out)) in
    ap (inner t.graph es) is ∙ right t (pos 0) (pos 0) es ys ys h.balanced.each h.balanced.each
    ∙ ring (inner t.graph es ys ∷ []) (plus (times (lit (pos 0)) (var 0)) (times (lit (pos 0)) (var 0))) (lit (pos 0)) refl

-- ---- errors that are orthogonal to balanced flows
abbrev pub IsOrthogonal : Setting → ℕ → List ℤ → Type 0
IsOrthogonal t n es = (ys : List ℤ) → IsOnChordsBefore t n ys → inner t.graph es ys ≡ pos 0

-- a multiple of the errors and such flows make a list that is orthogonal to all such flows
pub record HasOrthogonal (t : Setting) (n : ℕ) (es : List ℤ) : Type 0 where
  pub factor : ℤ
  pub flows : List ℤ
  pub positive : pos 1 ≤ℤ factor
  pub before : IsOnChordsBefore t n flows
  pub orthogonal : IsOrthogonal t n (combination factor (pos 1) es flows)

abbrev sum_with : {t : Setting} {n : ℕ} {es : List ℤ} → HasOrthogonal t n es → List ℤ
sum_with {es = es} h = combination h.factor (pos 1) es h.flows

-- ---- the next direction: flows with some flow on the chord at place n, orthogonal to those before it
record IsDirection (t : Setting) (n : ℕ) (ds : List ℤ) : Type 0 where
  before : IsOnChordsBefore t (suc n) ds
  there : pos 1 ≤ℤ item ds n
  orthogonal : IsOrthogonal t n ds

-- 1 at place n, and 0 before it
abbrev unit : ℕ → List ℤ
unit zero = pos 1 ∷ []
unit (suc n) = pos 0 ∷ unit n

unit_here : (n : ℕ) → item (unit n) n ≡ pos 1
unit_here zero = refl
unit_here (suc n) = unit_here n

unit_past : (n k : ℕ) → suc n ≤ k → item (unit n) k ≡ pos 0
unit_past n zero past = absurd (omega (arith, past))
unit_past zero (suc k) past = refl
unit_past (suc n) (suc k) past = unit_past n k (omega (arith, past))

direction : (t : Setting) (n : ℕ) (us : List ℤ) → IsOnChordsBefore t (suc n) us → item us n ≡ pos 1 → n < length t.held → get_or t.held n false ≡ false
    → (h : HasOrthogonal t n us) → IsDirection t n (combination h.factor (pos 1) us h.flows)
direction t n us first here lt out h = record {
  before = combined t (suc n) h.factor (pos 1) us h.flows first (on_more t n h.flows h.before);
  there =
      let is : item (combination h.factor (pos 1) us h.flows) n ≡ h.factor =
      item_combination h.factor (pos 1) us h.flows n (first.balanced.each ∙ sym h.before.balanced.each)
      ∙ ap₂ (λ (u v : ℤ). (h.factor *ℤ u) +ℤ (pos 1 *ℤ v)) here (h.before.rest n (omega arith) lt out)
      ∙ ring (h.factor ∷ []) (plus (times (var 0) (lit (pos 1))) (times (lit (pos 1)) (lit (pos 0)))) (var 0) refl in
      omega (arith, ints, is, h.positive);
  orthogonal = h.orthogonal;
}

-- what is orthogonal to the flows before and to the direction is orthogonal to those with the chord at place n
first_none : (c d x y : ℤ) → pos 1 ≤ℤ c → (c *ℤ x) +ℤ (d *ℤ y) ≡ pos 0 → y ≡ pos 0 → x ≡ pos 0
first_none c d x y c_pos e none =
    let alone : x *ℤ c ≡ pos 0 *ℤ c =
    ring (c ∷ d ∷ x ∷ []) (times (var 2) (var 0)) (plus (times (var 0) (var 2)) (times (var 1) (lit (pos 0)))) refl
    ∙ ap (λ (z : ℤ). (c *ℤ x) +ℤ (d *ℤ z)) (sym none) ∙ e
    ∙ ring (c ∷ []) (lit (pos 0)) (times (lit (pos 0)) (var 0)) refl in
    mul_cancel_eq x (pos 0) c alone (omega (arith, ints, c_pos))

extended : (t : Setting) (n : ℕ) (ds es : List ℤ) → n < length t.held → IsDirection t n ds → IsOrthogonal t n es → inner t.graph es ds ≡ pos 0
    → IsOrthogonal t (suc n) es
extended t n ds es lt d flat across ys h =
    let c = item ds n in
    let a = neg_ℤ (item ys n) in
    let zs = combination c a ys ds in
    let whole = combined t (suc n) c a ys ds h d.before in
    let is : (k : ℕ) → item zs k ≡ (c *ℤ item ys k) +ℤ (a *ℤ item ds k) = λ k. item_combination c a ys ds k (h.balanced.each ∙ sym d.before.balanced.each) in
    let here : item zs n ≡ pos 0 = is n ∙ ring (c ∷ item ys n ∷ []) (plus (times (var 0) (var 1)) (times (minus (var 1)) (var 0))) (lit (pos 0)) refl in
    let before : IsOnChordsBefore t n zs = record {
      balanced = whole.balanced;
      rest = λ k past less out. elim (cases_eq k n) [
        | inl same ↦ ap (item zs) same ∙ here
        | inr other ↦ whole.rest k (omega (arith, past, other)) less out
      ];
    } in
    first_none c a (inner t.graph es ys) (inner t.graph es ds) d.there (sym (right t c a es ys ds h.balanced.each d.before.balanced.each) ∙ flat zs before) across

-- ---- one more chord: the part along the direction is taken away, unless the direction has no squares
record IsStep (t : Setting) (n : ℕ) (ds es : List ℤ) : Type 0 where
  lt : n < length t.held
  direction : IsDirection t n ds
  each : length es ≡ length t.graph.streams

along_none : (t : Setting) (n : ℕ) (ds es : List ℤ) → IsStep t n ds es → inner t.graph ds ds ≡ pos 0 → HasOrthogonal t n es → HasOrthogonal t (suc n) es
along_none t n ds es s none h = record {
  factor = h.factor;
  flows = h.flows;
  positive = h.positive;
  before = on_more t n h.flows h.before;
  orthogonal = extended t n ds (sum_with h) s.lt s.direction h.orthogonal (inner_none (variance_product t.graph.streams) t.graph.streams (sum_with h) ds t.weights none);
}

-- a·(m·e + f) - b·d, as a·m·e + (a·f - b·d)
taken : (a b m e f d : ℤ) → ((a *ℤ m) *ℤ e) +ℤ (pos 1 *ℤ ((a *ℤ f) +ℤ (neg_ℤ b *ℤ d))) ≡ (a *ℤ ((m *ℤ e) +ℤ (pos 1 *ℤ f))) +ℤ (neg_ℤ b *ℤ d)
taken a b m e f d =
    ring (a ∷ b ∷ m ∷ e ∷ f ∷ d ∷ []) (plus (times (times (var 0) (var 2)) (var 3)) (times (lit (pos 1)) (plus (times (var 0) (var 4)) (times (minus (var 1)) (var 5)))))
    (plus (times (var 0) (plus (times (var 2) (var 3)) (times (lit (pos 1)) (var 4)))) (times (minus (var 1)) (var 5))) refl

taken_all : (a b : ℤ) → (a *ℤ b) +ℤ (neg_ℤ b *ℤ a) ≡ pos 0
taken_all a b = ring (a ∷ b ∷ []) (plus (times (var 0) (var 1)) (times (minus (var 1)) (var 0))) (lit (pos 0)) refl

along_some : (t : Setting) (n : ℕ) (ds es : List ℤ) → IsStep t n ds es → pos 1 ≤ℤ inner t.graph ds ds → HasOrthogonal t n es → HasOrthogonal t (suc n) es
along_some t n ds es s more h =
    let a = inner t.graph ds ds in
    let b = inner t.graph (sum_with h) ds in
    let flows = combination a (neg_ℤ b) h.flows ds in
    let before = combined t (suc n) a (neg_ℤ b) h.flows ds (on_more t n h.flows h.before) s.direction.before in
    let is : (ys : List ℤ) → inner t.graph (combination (a *ℤ h.factor) (pos 1) es flows) ys ≡ (a *ℤ inner t.graph (sum_with h) ys) +ℤ (neg_ℤ b *ℤ inner t.graph ds ys) = λ ys.
    left t (a *ℤ h.factor) (pos 1) es flows ys s.each before.balanced.each
    ∙ ap (λ (z : ℤ). ((a *ℤ h.factor) *ℤ inner t.graph es ys) +ℤ (pos 1 *ℤ z)) (left t a (neg_ℤ b) h.flows ds ys h.before.balanced.each s.direction.before.balanced.each)
    ∙ taken a b h.factor (inner t.graph es ys) (inner t.graph h.flows ys) (inner t.graph ds ys)
    ∙ ap (λ (z : ℤ). (a *ℤ z) +ℤ (neg_ℤ b *ℤ inner t.graph ds ys)) (sym (left t h.factor (pos 1) es h.flows ys s.each h.before.balanced.each)) in
    record {
      factor = a *ℤ h.factor;
      flows = flows;
      positive = mul_mono_both (pos 1) a (pos 1) h.factor more h.positive (omega (arith, ints)) (omega (arith, ints, more));
      before = before;
      orthogonal = extended t n ds (combination (a *ℤ h.factor) (pos 1) es flows) s.lt s.direction
          (λ ys first. is ys ∙ combined_none a (neg_ℤ b) _ _ (h.orthogonal ys first) (s.direction.orthogonal ys first))
          (is ds ∙ taken_all a b);
    }

along : (t : Setting) (n : ℕ) (ds es : List ℤ) → IsStep t n ds es → HasOrthogonal t n es → HasOrthogonal t (suc n) es
along t n ds es s h =
    let a = inner t.graph ds ds in
    let low = inner_nonneg (variance_product t.graph.streams) t.graph.streams ds t.weights in
    by_lt_z (pos 0) a
    (λ more. along_some t n ds es s (omega (arith, ints, more)) h)
    (λ none. along_none t n ds es s (omega (arith, ints, none, low)) h)

-- ---- chord by chord
held_next : (t : Setting) (n : ℕ) (es : List ℤ) → get_or t.held n false ≡ true → HasOrthogonal t n es → HasOrthogonal t (suc n) es
held_next t n es marked h = record {
  factor = h.factor;
  flows = h.flows;
  positive = h.positive;
  before = on_more t n h.flows h.before;
  orthogonal = λ ys first. h.orthogonal ys (record {
    balanced = first.balanced;
    rest = λ k past lt out. elim (cases_eq k n) [
      | inl same ↦ cc (sym marked ∙ ap (λ (i : ℕ). get_or t.held i false) (sym same) ∙ out)
      | inr other ↦ first.rest k (omega (arith, past, other)) lt out
    ];
  });
}

pub some_orthogonal : (t : Setting) (n : ℕ) → n ≤ length t.held → (es : List ℤ) → length es ≡ length t.graph.streams → HasOrthogonal t n es
some_orthogonal t zero le es each =
    let (zs, balanced, agree) = some_balanced_law t.graph t.held [] t.forest in
    record {
      factor = pos 1;
      flows = zs;
      positive = omega (arith, ints);
      before = record { balanced = balanced; rest = λ k past lt out. agree k lt out };
      orthogonal = λ ys first. none_without_chords t (combination (pos 1) (pos 1) es zs) ys first;
    }
some_orthogonal t (suc n) le es each =
    let less : n ≤ length t.held = omega (arith, le) in
    let lt : n < length t.held = omega (arith, le) in
    elim (cases_Bool (get_or t.held n false)) [
      | inl marked ↦ held_next t n es marked (some_orthogonal t n less es each)
      | inr out ↦
          let (us, balanced, agree) = some_balanced_law t.graph t.held (unit n) t.forest in
          let first : IsOnChordsBefore t (suc n) us = record { balanced = balanced; rest = λ k past less out. agree k less out ∙ unit_past n k past } in
          let h = some_orthogonal t n less us balanced.each in
          let ds = combination h.factor (pos 1) us h.flows in
          let step : IsStep t n ds es = record { lt = lt; direction = direction t n us first (agree n lt out ∙ unit_here n) lt out h; each = each } in
          along t n ds es step (some_orthogonal t n less es each)
    ]
