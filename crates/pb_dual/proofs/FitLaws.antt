-- Prices that fit, with the price of one free group moved.
use Rattle.std.proofs.Common.{◌≡◌, ◌≢◌, ◌∙◌, ◌==◌, ◌^◌, ℕ, ◌<◌, ◌≤◌, ℤ, ◌≤ℤ◌, true, false, not, List, length, ap, sym, refl, subst, inl, inr, arith, unsigned_abs}
use Rattle.std.specs.List.{list_any}
use Rattle.std.proofs.lemmas.Bool.{cases_lt, cases_eq, eq-eqb, ne_eqb, and_parts}
use Rattle.std.proofs.lemmas.List.{get_or_past}
use Rattle.std.proofs.lemmas.List.Folds.{Any-from_list_any}
use Rattle.pb_fixed.proofs.Lists.{AllByRecursion-from_all, All-from_recursion}
use Rattle.pb_fixed.proofs.Order.{le_trans}
use Rattle.pb_graph.specs.declared.records.Stream.{Stream}
use Rattle.pb_graph.specs.ProcessGraph.{ProcessGraph, IsProcessGraph, IsStream, IsWithinLimits}
use Rattle.pb_graph.specs.Groups.{group_at, has_one_end, is_free_group}
use Rattle.pb_graph.specs.Prices.{PricesFit, IsInBox}
use Rattle.pb_graph.proofs.GroupLaws.{first_number, one_end_cases, free_means}
use Rattle.pb_dual.specs.DualValue.{dual_value}
use Rattle.pb_dual.specs.Moves.{with_price}
use Rattle.pb_dual.specs.Candidates.{least_candidate, greatest_candidate, best_price}
use Rattle.pb_dual.specs.Laws.{CanMove, CandidateLaw, BestLaw}
use Rattle.pb_dual.proofs.BestLaws.{best_is}
use Rattle.pb_dual.proofs.MoveLaws.{with_own}
use Rattle.pb_dual.proofs.CandidateLaws.{candidate_in_box, in_box_candidate}

-- a price with a group moved, at a node of that group and at another one
pub with_at : (group : List ℕ) (price : ℕ → ℤ) (k : ℕ) (c : ℤ) (n : ℕ) → group_at group n ≡ k → with_price group price k c n ≡ c
with_at group price k c n e = rw (eq-eqb (group_at group n) k e) refl

pub with_other : (group : List ℕ) (price : ℕ → ℤ) (k : ℕ) (c : ℤ) (n : ℕ) → group_at group n ≢ k → with_price group price k c n ≡ price n
with_other group price k c n e = rw (ne_eqb (group_at group n) k e) refl

-- a free group has a node
pub node_of : (g : ProcessGraph) (group : List ℕ) (k : ℕ) → IsProcessGraph g → is_free_group group g.streams k ≡ true → (n : ℕ) × (n < g.nodes) × (group_at group n ≡ k)
node_of g group k limits free =
    let parts = and_parts (not (group_at group 0 == k)) (list_any (has_one_end group k) g.streams) free in
    let (i, s, within, is, one) = Any-from_list_any (has_one_end group k) g.streams parts.1 in
    let ends = subst (IsStream g.nodes) is (limits.joins i s within) in
    elim (one_end_cases (group_at group s.from) (group_at group s.to) k one) [
      | inl p ↦ (s.from, ends.from, p.0)
      | inr p ↦ (s.to, ends.to, p.1)
    ]

-- a free group isn't the environment's group
pub free_apart : (group : List ℕ) (ss : List Stream) (k : ℕ) → is_free_group group ss k ≡ true → group_at group 0 ≢ k
free_apart group ss k free e =
    let parts = and_parts (not (group_at group 0 == k)) (list_any (has_one_end group k) ss) free in
    let no : true ≡ false = sym parts.0 ∙ ap not (eq-eqb (group_at group 0) k e) in
    cc no

-- the nodes of a free group share its price
pub one_price : (g : ProcessGraph) (group : List ℕ) (price : ℕ → ℤ) (k : ℕ) → CanMove g group price k → (m : ℕ) → m < g.nodes → group_at group m ≡ k
    → (n : ℕ) → group_at group n ≡ k → price n ≡ price m
one_price g group price k h m m_lt m_in n n_in = elim (cases_lt n (length group)) [
  | inl lt ↦
      let n_lt : n < g.nodes = omega (arith, lt, h.groups.each) in
      h.fit.shared n m n_lt m_lt ((h.groups.same n m n_lt m_lt).0 (n_in ∙ sym m_in))
  | inr past ↦
      let zero : group_at group n ≡ 0 = get_or_past group n 0 past in
      let first = first_number g group h.groups h.limits.env in
      absurd (free_apart group g.streams k h.free (first ∙ sym zero ∙ n_in))
]

-- a candidate fits
fits_forth : (g : ProcessGraph) (group : List ℕ) (price : ℕ → ℤ) (k : ℕ) (c : ℤ) → CanMove g group price k
    → least_candidate group price k g.streams ≤ℤ c → c ≤ℤ greatest_candidate group price k g.streams → PricesFit g (with_price group price k c)
fits_forth g group price k c h low high =
    let limits = AllByRecursion-from_all IsWithinLimits g.streams h.limits.limits in
    let box = AllByRecursion-from_all (IsInBox price) g.streams h.fit.box in
    let r = candidate_in_box group price k c g.streams limits box low high in
    record {
      shared = λ a b a_lt b_lt same.
          let one = (h.groups.same a b a_lt b_lt).1 same in
          elim (cases_eq (group_at group a) k) [
            | inl e ↦ with_at group price k c a e ∙ sym (with_at group price k c b (sym one ∙ e))
            | inr ne ↦ with_other group price k c a ne ∙ h.fit.shared a b a_lt b_lt same ∙ sym (with_other group price k c b (λ e. ne (one ∙ e)))
          ];
      fixed = λ n lt held. elim (cases_eq (group_at group n) k) [
        | inl e ↦ absurd (held ((free_means g group n h.groups h.limits.env h.limits.joins lt).0 (ap (is_free_group group g.streams) e ∙ h.free)))
        | inr ne ↦ with_other group price k c n ne ∙ h.fit.fixed n lt held
      ];
      within = λ n lt. elim (cases_eq (group_at group n) k) [
        | inl e ↦ rw (with_at group price k c n e) r.0
        | inr ne ↦ rw (with_other group price k c n ne) (h.fit.within n lt)
      ];
      box = All-from_recursion (IsInBox (with_price group price k c)) g.streams r.1;
    }

-- what fits is a candidate
fits_back : (g : ProcessGraph) (group : List ℕ) (price : ℕ → ℤ) (k : ℕ) (c : ℤ) → CanMove g group price k → PricesFit g (with_price group price k c)
    → (least_candidate group price k g.streams ≤ℤ c) × (c ≤ℤ greatest_candidate group price k g.streams)
fits_back g group price k c h fit =
    let (n, lt, e) = node_of g group k h.limits h.free in
    let within : unsigned_abs c ≤ 2 ^ 120 = subst (λ x. unsigned_abs x ≤ 2 ^ 120) (with_at group price k c n e) (fit.within n lt) in
    in_box_candidate group price k c g.streams (AllByRecursion-from_all IsWithinLimits g.streams h.limits.limits) within
    (AllByRecursion-from_all (IsInBox (with_price group price k c)) g.streams fit.box)

pub candidate_law : CandidateLaw
candidate_law g group price k c h = ((λ p. fits_forth g group price k c h p.0 p.1), (λ fit. fits_back g group price k c h fit))

-- the price that a free group has is a candidate
pub record HasOld (g : ProcessGraph) (group : List ℕ) (price : ℕ → ℤ) (k : ℕ) (old : ℤ) : Type 0 where
  pub own : with_price group price k old ≡ price
  pub low : least_candidate group price k g.streams ≤ℤ old
  pub high : old ≤ℤ greatest_candidate group price k g.streams

pub old_is : (g : ProcessGraph) (group : List ℕ) (price : ℕ → ℤ) (k : ℕ) (old : ℤ) → CanMove g group price k → (m : ℕ) → m < g.nodes → group_at group m ≡ k → price m ≡ old
    → HasOld g group price k old
old_is g group price k old h m lt is at_m =
    let own = with_own group price k old (λ n e. one_price g group price k h m lt is n e ∙ at_m) in
    let both = fits_back g group price k old h (subst (PricesFit g) (sym own) h.fit) in
    record { own = own; low = both.0; high = both.1 }

pub best_law : BestLaw
best_law g group price k h =
    let (m, lt, is) = node_of g group k h.limits h.free in
    let old = old_is g group price k (price m) h m lt is refl in
    best_is (λ c. dual_value (with_price group price k c) g.streams) (least_candidate group price k g.streams) (greatest_candidate group price k g.streams) (le_trans _ _ _ old.low old.high)

-- the best price fits, and doesn't lower the dual value
pub best_fits : (g : ProcessGraph) (group : List ℕ) (price : ℕ → ℤ) (k : ℕ) → CanMove g group price k → PricesFit g (with_price group price k (best_price group price k g.streams))
best_fits g group price k h =
    let b = best_law g group price k h in
    fits_forth g group price k (best_price group price k g.streams) h b.from b.to

pub best_up : (g : ProcessGraph) (group : List ℕ) (price : ℕ → ℤ) (k : ℕ) → CanMove g group price k
    → dual_value price g.streams ≤ℤ dual_value (with_price group price k (best_price group price k g.streams)) g.streams
best_up g group price k h =
    let (m, lt, is) = node_of g group k h.limits h.free in
    let old = old_is g group price k (price m) h m lt is refl in
    let b = best_law g group price k h in
    subst (λ (p : ℕ → ℤ). dual_value p g.streams ≤ℤ dual_value (with_price group price k (best_price group price k g.streams)) g.streams) old.own (b.most (price m) old.low old.high)
