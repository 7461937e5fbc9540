-- Which nodes of a plant are among those of a window, and their numbers.
use Rattle.std.specs.Prelude.{filter, map, position}
use Rattle.std.specs.Option.{option_map_or}
use Rattle.std.specs.List.{AllByRecursion, enumerate_from, flat_map, list_any, range_with_len}
use Rattle.std.proofs.Common.{◌≡◌, ◌≢◌, ◌∙◌, ℕ, zero, suc, ◌+◌, ◌<◌, ◌≤◌, Bool, true, ◌||◌, List, [], ◌∷◌, ◌++◌, length, get_or, Option, None, Some, inl, inr, refl, sym, ap, subst, append_assoc, arith}
use Rattle.std.specs.Prelude.{◌==◌}
use Rattle.std.proofs.lemmas.Bool.{and_parts, cases_Bool, eq-eqb, eqb-false, eqb-true}
use Rattle.std.proofs.lemmas.List.Folds.{list_any-append}
use Rattle.std.proofs.lemmas.List.Quantifiers.{position-Some}
use Rattle.pb_plan.specs.declared.plant.Plant.{Plant}
use Rattle.pb_plan.specs.declared.plant.Span.{Span}
use Rattle.pb_plan.specs.declared.window.WindowNode.{WindowNode}
use Rattle.pb_plan.specs.Plant.{is_node_in, nodes_in}
use Rattle.pb_plan.specs.Window.{NumberedSpan, nodes_of_period, stands_for, window_node, window_number_of}
use Rattle.pb_plan.proofs.ListLemmas.{none_passes, or_true}

-- ---- a node of a period is one of its nodes

in_range : (n a len : ℕ) → a ≤ n → n < a + len → list_any (λ (m : ℕ). m == n) (range_with_len a len) ≡ true
in_range n a zero le lt = absurd (omega (arith, le, lt))
in_range n a (suc len) le lt = elim (cases_Bool (a == n)) [
  | inl same ↦ rw same refl
  | inr other ↦
      let differ = eqb-false a n other in
      rw other (in_range n (a + 1) len (omega (arith, le, differ)) (omega (arith, lt)))
]

in_filter : (q : ℕ → Bool) (n : ℕ) (xs : List ℕ) → q n ≡ true → list_any (λ (m : ℕ). m == n) xs ≡ true → list_any (λ (m : ℕ). m == n) (filter q xs) ≡ true
in_filter q n [] passes there = cc there
in_filter q n (x ∷ xs) passes there = elim (cases_Bool (x == n)) [
  | inl same ↦
      let kept : q x ≡ true = ap q (eqb-true x n same) ∙ passes in
      rw (kept, same) refl
  | inr other ↦
      let later = in_filter q n xs passes (rw other at there) in
      elim (cases_Bool (q x)) [ inl kept ↦ rw (kept, other) later | inr dropped ↦ rw dropped later ]
]

in_numbered : (n period i : ℕ) (xs : List ℕ) → list_any (λ (m : ℕ). m == n) xs ≡ true → list_any (stands_for period n) (map (window_node period) (enumerate_from i xs)) ≡ true
in_numbered n period i [] there = cc there
in_numbered n period i (x ∷ xs) there =
    let own : (period == period) ≡ true = eq-eqb period period refl in
    elim (cases_Bool (x == n)) [
      | inl same ↦ rw (own, same) refl
      | inr other ↦ rw (own, other) (in_numbered n period (i + 1) xs (rw other at there))
    ]

pub in_period : (plant : Plant) (period : ℕ) (span : Span) (n : ℕ) → is_node_in plant span n ≡ true → 1 ≤ n → n ≤ plant.nodes
    → list_any (stands_for period n) (nodes_of_period plant (period, span)) ≡ true
in_period plant period span n is least most =
    in_numbered n period 1 (nodes_in plant span) (in_filter (is_node_in plant span) n (range_with_len 1 plant.nodes) is (in_range n 1 plant.nodes least (omega (arith, most))))

-- the nodes of a period are among these
abbrev pub HasNodes : Plant → List WindowNode → NumberedSpan → Type 0
HasNodes plant nodes numbered =
    (n : ℕ) → is_node_in plant numbered.1 n ≡ true → 1 ≤ n → n ≤ plant.nodes → list_any (stands_for numbered.0 n) nodes ≡ true

in_middle : (p : WindowNode → Bool) (front here after : List WindowNode) → list_any p here ≡ true → list_any p (front ++ (here ++ after)) ≡ true
in_middle p front here after there =
    list_any-append p front (here ++ after)
    ∙ ap (λ (b : Bool). list_any p front || b) (list_any-append p here after ∙ ap (λ (b : Bool). b || list_any p after) there)
    ∙ or_true (list_any p front)

pub periods_have : (plant : Plant) (front : List WindowNode) (u : ℕ) (spans : List Span)
    → AllByRecursion (HasNodes plant (front ++ flat_map (nodes_of_period plant) (enumerate_from u spans))) (enumerate_from u spans)
periods_have plant front u [] = tt
periods_have plant front u (span ∷ spans) =
    let here = nodes_of_period plant (u, span) in
    let after = flat_map (nodes_of_period plant) (enumerate_from (u + 1) spans) in (
      λ n is least most. in_middle (stands_for u n) front here after (in_period plant u span n is least most),
      subst (λ (nodes : List WindowNode). AllByRecursion (HasNodes plant nodes) (enumerate_from (u + 1) spans)) (append_assoc front here after) (periods_have plant (front ++ here) (u + 1) spans),
    )

-- ---- numbers

abbrev some_node : WindowNode
some_node = record { period = 0; place = 0; node = 0 }

-- a number is that of a node of the graph
pub number_small : (nodes : List WindowNode) (period n : ℕ) → window_number_of nodes period n < 1 + length nodes
number_small nodes period n = by (position (stands_for period n) nodes) refl
  where
    by : (o : Option ℕ) → position (stands_for period n) nodes ≡ o → option_map_or (λ (place : ℕ). 1 + place) o 0 < 1 + length nodes
    by None at = omega arith
    by (Some i) at = let parts = position-Some (stands_for period n) nodes i some_node at in omega (arith, parts.0)

-- what is at a number that is that of a node
node_at : (nodes : List WindowNode) (period n i : ℕ) → position (stands_for period n) nodes ≡ Some i → ((get_or nodes i some_node).period ≡ period) × ((get_or nodes i some_node).node ≡ n)
node_at nodes period n i at =
    let here = (position-Some (stands_for period n) nodes i some_node at).1 in
    let one = get_or nodes i some_node in
    let parts = and_parts (one.period == period) (one.node == n) here in
    (eqb-true one.period period parts.0, eqb-true one.node n parts.1)

-- a node of a period isn't the environment
pub number_some : (nodes : List WindowNode) (period n : ℕ) → list_any (stands_for period n) nodes ≡ true → window_number_of nodes period n ≢ 0
number_some nodes period n there = by (position (stands_for period n) nodes) refl
  where
    by : (o : Option ℕ) → position (stands_for period n) nodes ≡ o → option_map_or (λ (place : ℕ). 1 + place) o 0 ≢ 0
    by None at = λ _. cc (sym there ∙ none_passes (stands_for period n) some_node nodes at)
    by (Some i) at = λ same. absurd (omega (arith, same))

-- two nodes of a plant in one period have different numbers, if units and tanks among them are nodes of it
pub nodes_apart : (nodes : List WindowNode) (period a b : ℕ) → a ≢ b → (1 ≤ a → list_any (stands_for period a) nodes ≡ true)
    → (1 ≤ b → list_any (stands_for period b) nodes ≡ true) → window_number_of nodes period a ≢ window_number_of nodes period b
nodes_apart nodes period a b differ a_there b_there = λ same. by (position (stands_for period a) nodes) (position (stands_for period b) nodes) refl refl same
  where
    by : (o p : Option ℕ) → position (stands_for period a) nodes ≡ o → position (stands_for period b) nodes ≡ p
        → option_map_or (λ (place : ℕ). 1 + place) o 0 ≡ option_map_or (λ (place : ℕ). 1 + place) p 0 → ⊥
    by None None a_at b_at same = elim (cases_Bool (a == 0)) [
      | inl none ↦
          let a_is = eqb-true a 0 none in
          cc (sym (b_there (omega (arith, a_is, differ))) ∙ none_passes (stands_for period b) some_node nodes b_at)
      | inr some ↦
          let a_some = eqb-false a 0 some in
          cc (sym (a_there (omega (arith, a_some))) ∙ none_passes (stands_for period a) some_node nodes a_at)
    ]
    by None (Some k) a_at b_at same = absurd (omega (arith, same))
    by (Some i) None a_at b_at same = absurd (omega (arith, same))
    by (Some i) (Some k) a_at b_at same =
        let one = (node_at nodes period a i a_at).1 in
        let other = (node_at nodes period b k b_at).1 in
        let place : i ≡ k = omega (arith, same) in
        differ (sym one ∙ ap (λ (m : ℕ). (get_or nodes m some_node).node) place ∙ other)

-- a node of a plant has different numbers in two periods
pub periods_apart : (nodes : List WindowNode) (t u n : ℕ) → t ≢ u → list_any (stands_for t n) nodes ≡ true → window_number_of nodes t n ≢ window_number_of nodes u n
periods_apart nodes t u n differ there = λ same. by (position (stands_for t n) nodes) (position (stands_for u n) nodes) refl refl same
  where
    by : (o p : Option ℕ) → position (stands_for t n) nodes ≡ o → position (stands_for u n) nodes ≡ p
        → option_map_or (λ (place : ℕ). 1 + place) o 0 ≡ option_map_or (λ (place : ℕ). 1 + place) p 0 → ⊥
    by None p t_at u_at same = cc (sym there ∙ none_passes (stands_for t n) some_node nodes t_at)
    by (Some i) None t_at u_at same = absurd (omega (arith, same))
    by (Some i) (Some k) t_at u_at same =
        let one = (node_at nodes t n i t_at).0 in
        let other = (node_at nodes u n k u_at).0 in
        let place : i ≡ k = omega (arith, same) in
        differ (sym one ∙ ap (λ (m : ℕ). (get_or nodes m some_node).period) place ∙ other)
