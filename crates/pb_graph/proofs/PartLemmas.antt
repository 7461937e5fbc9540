-- Labels of nodes: the least node that each reaches, as streams join more of them.
use Rattle.std.proofs.Common.{◌≡◌, ◌≢◌, ◌⊎◌, ◌∙◌, ℕ, ◌<◌, ◌≤◌, ◌↔◌, Bool, true, min, max, List, [], ◌∷◌, length, ap, sym, refl, subst, inl, inr, arith}
use Rattle.std.proofs.lemmas.Bool.{cases_eq, cases_lt, eq-eqb, ne_eqb}
use Rattle.std.proofs.lemmas.List.{length-map, get_or-map}
use Rattle.std.proofs.Math.Nat.{max-eq_left, max-eq_right, min-eq_left, min-eq_right}
use Rattle.pb_graph.specs.declared.records.Stream.{Stream}
use Rattle.pb_graph.specs.declared.records.Step.{Step}
use Rattle.pb_graph.specs.ProcessGraph.{IsStream}
use Rattle.pb_graph.specs.Walk.{ends_of, Walks, Reaches, IsStricter}
use Rattle.pb_graph.specs.Parts.{label_at, IsLabelling, TakesNone, IsOneMore}
use Rattle.pb_graph.specs.Labels.{lowered, joined}
use Rattle.pb_graph.proofs.WalkLemmas.{ends_is, stream_of, reach_none, reach_one, reach_both, reach_back, reach_more}
use Rattle.pb_graph.proofs.ReachLemmas.{more_cases}

-- a label is no greater than its node
pub label_low : (streams : List Stream) (nodes : ℕ) (may : ℕ → Stream → Bool) (labels : List ℕ) (n : ℕ) → n < nodes → IsLabelling streams nodes may labels → label_at labels n ≤ n
label_low streams nodes may labels n lt is = is.least n n lt (reach_none (ends_of may streams) n)

-- nodes one of which reaches the other have the same label
pub labels_kept : (streams : List Stream) (nodes : ℕ) (may : ℕ → Stream → Bool) (labels : List ℕ) (a b : ℕ) → a < nodes → b < nodes → IsLabelling streams nodes may labels
    → Reaches (ends_of may streams) a b → label_at labels a ≡ label_at labels b
labels_kept streams nodes may labels a b la lb is r =
    let ends = ends_of may streams in
    let back = reach_back may streams a b r in
    let one = is.least a (label_at labels b) la (reach_both ends a b (label_at labels b) r (is.reached b lb)) in
    let other = is.least b (label_at labels a) lb (reach_both ends b a (label_at labels a) back (is.reached a la)) in
    omega (arith, one, other)

-- a label is the label of itself
pub label_own : (streams : List Stream) (nodes : ℕ) (may : ℕ → Stream → Bool) (labels : List ℕ) (n : ℕ) → n < nodes → IsLabelling streams nodes may labels
    → label_at labels (label_at labels n) ≡ label_at labels n
label_own streams nodes may labels n lt is =
    let low = label_low streams nodes may labels n lt is in
    sym (labels_kept streams nodes may labels n (label_at labels n) lt (omega (arith, low, lt)) is (is.reached n lt))

-- nodes have the same label exactly when one reaches the other
pub labels_tell : (streams : List Stream) (nodes : ℕ) (may : ℕ → Stream → Bool) (labels : List ℕ) (a b : ℕ) → a < nodes → b < nodes → IsLabelling streams nodes may labels
    → (label_at labels a ≡ label_at labels b) ↔ Reaches (ends_of may streams) a b
labels_tell streams nodes may labels a b la lb is =
    let ends = ends_of may streams in (
      (λ e.
          let to_b : Reaches ends a (label_at labels b) = subst (λ (n : ℕ). Reaches ends a n) e (is.reached a la) in
          reach_both ends a (label_at labels b) b to_b (reach_back may streams b (label_at labels b) (is.reached b lb))),
      (λ r. labels_kept streams nodes may labels a b la lb is r),
    )

-- the same streams of the list may be taken
pub labels_same : (streams : List Stream) (nodes : ℕ) (may more : ℕ → Stream → Bool) (labels : List ℕ) → IsStricter streams may more → IsStricter streams more may
    → IsLabelling streams nodes may labels → IsLabelling streams nodes more labels
labels_same streams nodes may more labels there back is = record {
  each = is.each;
  reached = λ n lt. reach_more may more streams n (label_at labels n) there (is.reached n lt);
  least = λ n m lt r. is.least n m lt (reach_more more may streams n m back r);
}

-- if no stream may be taken, each node reaches only itself
none_reached : (streams : List Stream) (may : ℕ → Stream → Bool) (a b : ℕ) (steps : List Step) → TakesNone streams may → Walks (ends_of may streams) a steps b → a ≡ b
none_reached streams may a b [] none w = w
none_reached streams may a b (t ∷ rest) none (c, e, w) =
    let (s, at, ok, goes) = stream_of may streams t (a, c) e in
    cc (sym ok ∙ none t.stream s at)

pub labels_apart : (streams : List Stream) (nodes : ℕ) (may : ℕ → Stream → Bool) (labels : List ℕ) → TakesNone streams may → length labels ≡ nodes
    → ((n : ℕ) → n < nodes → label_at labels n ≡ n) → IsLabelling streams nodes may labels
labels_apart streams nodes may labels none each own = record {
  each = each;
  reached = λ n lt. ([], sym (own n lt));
  least = λ n m lt (steps, w). let same = none_reached streams may n m steps none w in omega (arith, own n lt, same);
}

-- ---- one more stream
lowered_high : (high low label : ℕ) → label ≡ high → lowered high low label ≡ low
lowered_high high low label e = rw (eq-eqb label high e) refl

lowered_other : (high low label : ℕ) → label ≢ high → lowered high low label ≡ label
lowered_other high low label ne = rw (ne_eqb label high ne) refl

-- the label of a node that was replaced, or the label it had before
lowered_cases : (high low label : ℕ) → ((label ≡ high) × (lowered high low label ≡ low)) ⊎ ((label ≢ high) × (lowered high low label ≡ label))
lowered_cases high low label = elim (cases_eq label high) [
  | inl e ↦ inl (e, lowered_high high low label e)
  | inr ne ↦ inr (ne, lowered_other high low label ne)
]

-- a label only falls
lowered_falls : (high low label : ℕ) → low ≤ high → lowered high low label ≤ label
lowered_falls high low label le = elim (lowered_cases high low label) [
  | inl (e, is) ↦ omega (arith, e, is, le)
  | inr (ne, is) ↦ omega (arith, is)
]

-- the labels of both ends of the stream become the lower of them
record IsPair (x y high low : ℕ) : Type 0 where
  pub order : low ≤ high
  pub ends : ((x ≡ high) × (y ≡ low)) ⊎ ((x ≡ low) × (y ≡ high))

pair_of : (x y : ℕ) → IsPair x y (max x y) (min x y)
pair_of x y = elim (cases_lt x y) [
  | inl lt ↦ record { order = omega arith; ends = inr (sym (min-eq_left (omega (arith, lt))), sym (max-eq_right (omega (arith, lt)))) }
  | inr ge ↦ record { order = omega arith; ends = inl (sym (max-eq_left ge), sym (min-eq_right ge)) }
]

pair_low : (x y high low : ℕ) → IsPair x y high low → (lowered high low x ≡ low) × (lowered high low y ≡ low)
pair_low x y high low pair = elim pair.ends [
  | inl (hx, ly) ↦ (lowered_high high low x hx, elim (lowered_cases high low y) [ inl (e, is) ↦ is | inr (ne, is) ↦ is ∙ ly ])
  | inr (lx, hy) ↦ (elim (lowered_cases high low x) [ inl (e, is) ↦ is | inr (ne, is) ↦ is ∙ lx ], lowered_high high low y hy)
]

pub labels_joined : (streams : List Stream) (nodes : ℕ) (may more : ℕ → Stream → Bool) (labels : List ℕ) (j : ℕ) (s : Stream) → IsStream nodes s
    → IsOneMore streams may more j s → IsLabelling streams nodes may labels → IsLabelling streams nodes more (joined labels s.from s.to)
labels_joined streams nodes may more labels j s ends one is =
    let x = label_at labels s.from in
    let y = label_at labels s.to in
    let high = max x y in
    let low = min x y in
    let pair = pair_of x y in
    let both = pair_low x y high low pair in
    let new = joined labels s.from s.to in
    let at : (n : ℕ) → n < nodes → label_at new n ≡ lowered high low (label_at labels n) = λ n lt. get_or-map (lowered high low) labels n 0 0 (omega (arith, lt, is.each)) in
    let go = ends_of more streams in
    let wide : (a b : ℕ) → Reaches (ends_of may streams) a b → Reaches go a b = λ a b r. reach_more may more streams a b one.before r in
    let forth : Reaches go s.from s.to = reach_one go s.from s.to (record { stream = j; forward = true }) (ends_is more streams j s true one.there one.here) in
    let back : Reaches go s.to s.from = reach_back more streams s.from s.to forth in
    let home : (n : ℕ) → n < nodes → Reaches go (label_at labels n) n = λ n lt. reach_back more streams n (label_at labels n) (wide n (label_at labels n) (is.reached n lt)) in
    let across : Reaches go high low = elim pair.ends [
      | inl (hx, ly) ↦
          let path : Reaches go x y = reach_both go x s.from y (home s.from ends.from) (reach_both go s.from s.to y forth (wide s.to y (is.reached s.to ends.to))) in
          subst (λ (m : ℕ). Reaches go m low) hx (subst (λ (m : ℕ). Reaches go x m) ly path)
      | inr (lx, hy) ↦
          let path : Reaches go y x = reach_both go y s.to x (home s.to ends.to) (reach_both go s.to s.from x back (wide s.from x (is.reached s.from ends.from))) in
          subst (λ (m : ℕ). Reaches go m low) hy (subst (λ (m : ℕ). Reaches go y m) lx path)
    ] in
    let through : (n m : ℕ) → n < nodes → m < nodes → label_at labels n ≡ label_at labels m → lowered high low (label_at labels m) ≡ low → label_at new n ≡ low =
    λ n m ln lm same falls. at n ln ∙ ap (lowered high low) same ∙ falls in
    record {
      each = length-map labels (lowered high low) ∙ is.each;
      reached = λ n lt. elim (lowered_cases high low (label_at labels n)) [
        | inl (e, falls) ↦
            let to_high : Reaches go n high = subst (λ (m : ℕ). Reaches go n m) e (wide n (label_at labels n) (is.reached n lt)) in
            subst (λ (m : ℕ). Reaches go n m) (sym (at n lt ∙ falls)) (reach_both go n high low to_high across)
        | inr (ne, stays) ↦ subst (λ (m : ℕ). Reaches go n m) (sym (at n lt ∙ stays)) (wide n (label_at labels n) (is.reached n lt))
      ];
      least = λ n m lt (steps, w). elim (more_cases streams may more j s n m steps one.there one.only w) [
        | inl r ↦
            let falls = lowered_falls high low (label_at labels n) pair.order in
            omega (arith, at n lt, falls, is.least n m lt r)
        | inr crossing ↦ elim crossing [
          | inl (to_from, from_to) ↦
              let same = labels_kept streams nodes may labels n s.from lt ends.from is to_from in
              let new_is = through n s.from lt ends.from same both.0 in
              let le = is.least s.to m ends.to from_to in
              omega (arith, new_is, le)
          | inr (to_to, from_from) ↦
              let same = labels_kept streams nodes may labels n s.to lt ends.to is to_to in
              let new_is = through n s.to lt ends.to same both.1 in
              let le = is.least s.from m ends.from from_from in
              omega (arith, new_is, le)
        ]
      ];
    }
