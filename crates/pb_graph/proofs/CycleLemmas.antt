-- A closed walk on which no node appears twice: it has no more steps than nodes, and a stream appears twice on it only there and back.
use Rattle.std.proofs.Common.{◌≡◌, ◌≢◌, ◌⊎◌, ◌∙◌, ℕ, zero, suc, ◌+◌, ◌<◌, ◌≤◌, Bool, true, false, not, ◌||◌, ◌==◌, List, [], ◌∷◌, ◌++◌, length, get_or, take, drop, set, replicate, Some, slice_get, ap, sym, refl, subst, inl, inr, arith}
use Rattle.std.specs.List.{list_any}
use Rattle.std.proofs.lemmas.Bool.{cases_Bool, cases_eq, and_parts, or_right, eq-eqb, ne_eqb, not-true}
use Rattle.std.proofs.lemmas.List.{take_more, take-append-drop, get_or-set_same, get_or-set_other, length-set, length-replicate}
use Rattle.pb_fixed.proofs.Lists.{drop_next}
use Rattle.pb_graph.specs.declared.records.Stream.{Stream}
use Rattle.pb_graph.specs.declared.records.Step.{Step}
use Rattle.pb_graph.specs.ProcessGraph.{ProcessGraph, IsStream}
use Rattle.pb_graph.specs.Walk.{along, ends_of, any_stream, Walks}
use Rattle.pb_graph.specs.Cycle.{is_distinct, begin_of, first_or, start_of}
use Rattle.pb_graph.specs.Steps.{is_there_and_back}
use Rattle.pb_graph.specs.Search.{unfound}
use Rattle.pb_graph.proofs.WalkLemmas.{stream_of, along_within, some_same}
use Rattle.pb_graph.proofs.SearchLemmas.{unfound-set, unfound-zeros, zero_at}

-- ---- lists of distinct keys
-- an item is one of a list
abbrev pub IsIn : {A : Type 0} → A → List A → Type 0
IsIn y [] = ⊥
IsIn y (x ∷ xs) = (y ≡ x) ⊎ IsIn y xs

any_false_at : {A : Type 0} (p : A → Bool) (xs : List A) (y : A) → list_any p xs ≡ false → IsIn y xs → p y ≡ false
any_false_at p [] y none here = absurd here
any_false_at p (x ∷ xs) y none here = elim (cases_Bool (p x)) [
  | inl yes_p ↦ cc (rw yes_p at none)
  | inr no_p ↦ elim here [
    | inl e ↦ ap p e ∙ no_p
    | inr there ↦ any_false_at p xs y (rw no_p at none) there
  ]
]

any_false_from : {A : Type 0} (p : A → Bool) (xs : List A) → ((y : A) → IsIn y xs → p y ≡ false) → list_any p xs ≡ false
any_false_from p [] each = refl
any_false_from p (x ∷ xs) each = rw (each x (inl refl)) (any_false_from p xs (λ y here. each y (inr here)))

-- the first key doesn't appear again, and the rest are distinct
distinct_parts : {A : Type 0} (key : A → ℕ) (x : A) (xs : List A) → is_distinct key (x ∷ xs) ≡ true → (list_any (λ y. key y == key x) xs ≡ false) × (is_distinct key xs ≡ true)
distinct_parts key x xs once =
    let parts = and_parts (not (list_any (λ y. key y == key x) xs)) (is_distinct key xs) once in
    (not-true (list_any (λ y. key y == key x) xs) parts.0, parts.1)

distinct_from : {A : Type 0} (key : A → ℕ) (x : A) (xs : List A) → list_any (λ y. key y == key x) xs ≡ false → is_distinct key xs ≡ true → is_distinct key (x ∷ xs) ≡ true
distinct_from key x xs none once = rw none once

-- an item of a list that doesn't have a key has a different key
key_apart : {A : Type 0} (key : A → ℕ) (xs : List A) (x y : A) → list_any (λ z. key z == key x) xs ≡ false → IsIn y xs → key y ≢ key x
key_apart key xs x y none here e = cc (sym (eq-eqb (key y) (key x) e) ∙ any_false_at (λ z. key z == key x) xs y none here)

-- if the keys are distinct and below n, there are at most n of them
pub distinct_few : {A : Type 0} (key : A → ℕ) (xs : List A) (ps : List ℕ) → is_distinct key xs ≡ true → ((x : A) → IsIn x xs → (key x < length ps) × (get_or ps (key x) 0 ≡ 0))
    → length xs ≤ unfound ps
distinct_few key [] ps once each = omega arith
distinct_few key (x ∷ xs) ps once each =
    let parts = distinct_parts key x xs once in
    let here = each x (inl refl) in
    let less = unfound-set ps (key x) 1 here.0 here.1 (omega arith) in
    let rest = distinct_few key xs (set ps (key x) 1) parts.1 (λ y within.
    let there = each y (inr within) in
    (omega (arith, there.0, length-set ps (key x) 1), get_or-set_other ps (key x) (key y) 1 0 (key_apart key xs x y parts.0 within) ∙ there.1)) in
    omega (arith, less, rest)

-- ---- walks with distinct begins
begin_is : (nodes : ℕ) (ss : List Stream) (t : Step) (a c : ℕ) → ends_of any_stream ss t ≡ Some (a, c) → begin_of nodes ss t ≡ a
begin_is nodes ss t a c e = ap (first_or nodes) e

later : {A : Type 0} (p : A → Bool) (x : A) (xs : List A) → list_any p xs ≡ true → list_any p (x ∷ xs) ≡ true
later p x xs some = elim (cases_Bool (p x)) [ inl yes_x ↦ rw yes_x refl | inr no_x ↦ rw no_x some ]

-- a walk ends where it begins, or its first step begins there
walk_first : (nodes : ℕ) (ss : List Stream) (c b : ℕ) (us : List Step) → Walks (ends_of any_stream ss) c us b → (c ≡ b) ⊎ (list_any (λ z. begin_of nodes ss z == c) us ≡ true)
walk_first nodes ss c b [] w = inl w
walk_first nodes ss c b (v ∷ vs) (f, e_v, w) = inr (rw (eq-eqb (begin_of nodes ss v) c (begin_is nodes ss v c f e_v)) refl)

-- after each step of a walk the next one begins, or the walk ends
walk_next : (nodes : ℕ) (ss : List Stream) (d b : ℕ) (us : List Step) (y : Step) (a e : ℕ) → Walks (ends_of any_stream ss) d us b → IsIn y us → ends_of any_stream ss y ≡ Some (a, e)
    → (e ≡ b) ⊎ (list_any (λ z. begin_of nodes ss z == e) us ≡ true)
walk_next nodes ss d b [] y a e w here is = absurd here
walk_next nodes ss d b (u ∷ us) y a e (c, e_u, w) here is = elim here [
  | inl same ↦
      let ends_same : Some (d, c) ≡ Some (a, e) = sym e_u ∙ ap (ends_of any_stream ss) (sym same) ∙ is in
      let c_is : c ≡ e = ap (λ (p : ℕ × ℕ). p.1) (some_same ends_same) in
      elim (walk_first nodes ss c b us w) [
        | inl last ↦ inl (sym c_is ∙ last)
        | inr some ↦ inr (later (λ z. begin_of nodes ss z == e) u us (subst (λ (n : ℕ). list_any (λ z. begin_of nodes ss z == n) us ≡ true) c_is some))
      ]
  | inr there ↦ elim (walk_next nodes ss c b us y a e w there is) [
    | inl last ↦ inl last
    | inr some ↦ inr (later (λ z. begin_of nodes ss z == e) u us some)
  ]
]

-- a step of a walk has ends
walk_ends : (ss : List Stream) (d b : ℕ) (us : List Step) (y : Step) → Walks (ends_of any_stream ss) d us b → IsIn y us → (a : ℕ) × (e : ℕ) × (ends_of any_stream ss y ≡ Some (a, e))
walk_ends ss d b [] y w here = absurd here
walk_ends ss d b (u ∷ us) y (c, e_u, w) here = elim here [
  | inl same ↦ (d, c, ap (ends_of any_stream ss) same ∙ e_u)
  | inr there ↦ walk_ends ss c b us y w there
]

-- two steps along one stream begin at the same node, or each begins where the other ends
two_ways : (ss : List Stream) (u y : Step) (a c d e : ℕ) → u.stream ≡ y.stream → ends_of any_stream ss u ≡ Some (a, c) → ends_of any_stream ss y ≡ Some (d, e)
    → (d ≡ a) ⊎ ((d ≡ c) × (e ≡ a))
two_ways ss u y a c d e same e_u e_y =
    let (s, at_s, ok_s, goes_u) = stream_of any_stream ss u (a, c) e_u in
    let (r, at_r, ok_r, goes_y) = stream_of any_stream ss y (d, e) e_y in
    let is : r ≡ s = some_same (sym at_r ∙ ap (slice_get ss) (sym same) ∙ at_s) in
    ways s u.forward y.forward goes_u (ap (along y.forward) (sym is) ∙ goes_y)
  where
    ways : (s : Stream) (f h : Bool) → along f s ≡ (a, c) → along h s ≡ (d, e) → (d ≡ a) ⊎ ((d ≡ c) × (e ≡ a))
    ways s true true p q = inl (ap (λ (z : ℕ × ℕ). z.0) (sym q ∙ p))
    ways s false false p q = inl (ap (λ (z : ℕ × ℕ). z.0) (sym q ∙ p))
    ways s true false p q = inr (sym (ap (λ (z : ℕ × ℕ). z.0) q) ∙ ap (λ (z : ℕ × ℕ). z.1) p, sym (ap (λ (z : ℕ × ℕ). z.1) q) ∙ ap (λ (z : ℕ × ℕ). z.0) p)
    ways s false true p q = inr (sym (ap (λ (z : ℕ × ℕ). z.0) q) ∙ ap (λ (z : ℕ × ℕ). z.1) p, sym (ap (λ (z : ℕ × ℕ). z.1) q) ∙ ap (λ (z : ℕ × ℕ). z.0) p)

-- on a path no stream appears twice
path_streams : (nodes : ℕ) (ss : List Stream) (c b : ℕ) (us : List Step) → Walks (ends_of any_stream ss) c us b → is_distinct (begin_of nodes ss) us ≡ true
    → list_any (λ z. begin_of nodes ss z == b) us ≡ false → is_distinct (λ (t : Step). t.stream) us ≡ true
path_streams nodes ss c b [] w once last = refl
path_streams nodes ss c b (u ∷ us) (d, e_u, w) once last =
    let key = begin_of nodes ss in
    let parts = distinct_parts key u us once in
    let last_us : list_any (λ z. key z == b) us ≡ false = any_false_from (λ z. key z == b) us (λ y here. any_false_at (λ z. key z == b) (u ∷ us) y last (inr here)) in
    let away : c ≢ b = λ same. cc (sym (eq-eqb (key u) b (begin_is nodes ss u c d e_u ∙ same)) ∙ any_false_at (λ z. key z == b) (u ∷ us) u last (inl refl)) in
    let none : list_any (λ (y : Step). y.stream == u.stream) us ≡ false = any_false_from (λ (y : Step). y.stream == u.stream) us (λ y here.
    ne_eqb y.stream u.stream (λ same.
    let (a, e, e_y) = walk_ends ss d b us y w here in
    elim (two_ways ss u y c d a e (sym same) e_u e_y) [
      | inl begins ↦ key_apart key us u y parts.0 here (begin_is nodes ss y a e e_y ∙ begins ∙ sym (begin_is nodes ss u c d e_u))
      | inr (there, back) ↦ elim (walk_next nodes ss d b us y a e w here e_y) [
        | inl ends ↦ away (sym back ∙ ends)
        | inr some ↦
            let again : list_any (λ z. key z == key u) us ≡ true = subst (λ (n : ℕ). list_any (λ z. key z == n) us ≡ true) (back ∙ sym (begin_is nodes ss u c d e_u)) some in
            cc (sym again ∙ parts.0)
      ]
    ])) in
    distinct_from (λ (t : Step). t.stream) u us none (path_streams nodes ss d b us w parts.1 last_us)

-- on a closed walk on which no node appears twice, and that isn't there and back, no stream appears twice
pub round_streams : (nodes : ℕ) (ss : List Stream) (a : ℕ) (steps : List Step) → Walks (ends_of any_stream ss) a steps a → is_distinct (begin_of nodes ss) steps ≡ true
    → is_there_and_back steps ≡ false → is_distinct (λ (t : Step). t.stream) steps ≡ true
round_streams nodes ss a [] w once simple = refl
round_streams nodes ss a (t ∷ []) w once simple = refl
round_streams nodes ss a (t ∷ u ∷ rest) (c, e_t, (d, e_u, w)) once simple =
    let key = begin_of nodes ss in
    let us : List Step = u ∷ rest in
    let parts = distinct_parts key t us once in
    let inner = distinct_parts key u rest parts.1 in
    let begin_t = begin_is nodes ss t a c e_t in
    let begin_u = begin_is nodes ss u c d e_u in
    let last : list_any (λ z. key z == a) us ≡ false = subst (λ (n : ℕ). list_any (λ z. key z == n) us ≡ false) begin_t parts.0 in
    let walk_us : Walks (ends_of any_stream ss) c us a = (d, e_u, w) in
    let none : list_any (λ (y : Step). y.stream == t.stream) us ≡ false = any_false_from (λ (y : Step). y.stream == t.stream) us (λ y here.
    ne_eqb y.stream t.stream (λ same.
    let (b, e, e_y) = walk_ends ss c a us y walk_us here in
    let begin_y = begin_is nodes ss y b e e_y in
    elim (two_ways ss t y a c b e (sym same) e_t e_y) [
      | inl begins ↦ key_apart key us t y parts.0 here (begin_y ∙ begins ∙ sym begin_t)
      | inr (there, back) ↦ elim here [
        | inl is_u ↦
            let d_is : d ≡ a = ap (λ (p : ℕ × ℕ). p.1) (some_same (sym e_u ∙ ap (ends_of any_stream ss) (sym is_u) ∙ e_y)) ∙ back in
            not_back rest simple (ap (λ (z : Step). z.stream) (sym is_u) ∙ same) (subst (λ (n : ℕ). Walks (ends_of any_stream ss) n rest a) d_is w)
            (any_false_from (λ z. key z == a) rest (λ y there. any_false_at (λ z. key z == a) us y last (inr there)))
        | inr later_y ↦ key_apart key rest u y inner.0 later_y (begin_y ∙ there ∙ sym begin_u)
      ]
    ])) in
    distinct_from (λ (t : Step). t.stream) t us none (path_streams nodes ss c a us walk_us parts.1 last)
  where
    not_back : (rest : List Step) → is_there_and_back (t ∷ u ∷ rest) ≡ false → u.stream ≡ t.stream → Walks (ends_of any_stream ss) a rest a
        → list_any (λ z. begin_of nodes ss z == a) rest ≡ false → ⊥
    not_back [] simple same w none = cc (sym (eq-eqb t.stream u.stream (sym same)) ∙ simple)
    not_back (v ∷ vs) simple same (f, e_v, w) none =
        cc (sym (eq-eqb (begin_of nodes ss v) a (begin_is nodes ss v a f e_v)) ∙ any_false_at (λ z. begin_of nodes ss z == a) (v ∷ vs) v none (inl refl))

-- streams that differ aren't there and back
pub not_there_and_back : (steps : List Step) → is_distinct (λ (t : Step). t.stream) steps ≡ true → is_there_and_back steps ≡ false
not_there_and_back [] once = refl
not_there_and_back (t ∷ []) once = refl
not_there_and_back (t ∷ u ∷ []) once =
    let parts = distinct_parts (λ (t : Step). t.stream) t (u ∷ []) once in
    ne_eqb t.stream u.stream (λ same. key_apart (λ (t : Step). t.stream) (u ∷ []) t u parts.0 (inl refl) (sym same))
not_there_and_back (t ∷ u ∷ v ∷ rest) once = refl

-- a walk on which no node appears twice has no more steps than the graph has nodes
pub walk_few : (nodes : ℕ) (ss : List Stream) (a b : ℕ) (steps : List Step) → ((k : ℕ) (s : Stream) → slice_get ss k ≡ Some s → IsStream nodes s)
    → Walks (ends_of any_stream ss) a steps b → is_distinct (begin_of nodes ss) steps ≡ true → length steps ≤ nodes
walk_few nodes ss a b steps each w once =
    let zeros : List ℕ = replicate nodes 0 in
    let few = distinct_few (begin_of nodes ss) steps zeros once (λ y here.
    let (c, e, e_y) = walk_ends ss a b steps y w here in
    let (s, at_s, ok, goes) = stream_of any_stream ss y (c, e) e_y in
    let within = along_within nodes s y.forward c e (each y.stream s at_s) goes in
    let lt : begin_of nodes ss y < nodes = omega (arith, begin_is nodes ss y c e e_y, within.0) in
    (omega (arith, lt, length-replicate {A = ℕ} nodes 0), zero_at nodes (begin_of nodes ss y))) in
    omega (arith, few, unfound-zeros nodes)

-- ---- nodes seen
-- marks of the nodes at which steps begin
abbrev pub AreSeen : ℕ → List Stream → List Step → List Bool → Type 0
AreSeen nodes ss steps seen = (n : ℕ) → n ≤ nodes → get_or seen n false ≡ list_any (λ step. begin_of nodes ss step == n) steps

pub none_seen : (k n : ℕ) → get_or (replicate {A = Bool} k false) n false ≡ false
none_seen zero n = refl
none_seen (suc k) zero = refl
none_seen (suc k) (suc n) = none_seen k n

any-append : {A : Type 0} (p : A → Bool) (xs : List A) (x : A) → list_any p (xs ++ x ∷ []) ≡ (list_any p xs || p x)
any-append p [] x = elim (cases_Bool (p x)) [ inl yes_x ↦ rw yes_x refl | inr no_x ↦ rw no_x refl ]
any-append p (y ∷ xs) x = elim (cases_Bool (p y)) [ inl yes_y ↦ rw yes_y refl | inr no_y ↦ rw no_y (any-append p xs x) ]

any_at : {A : Type 0} (p : A → Bool) (xs ys : List A) (x : A) → p x ≡ true → list_any p (xs ++ x ∷ ys) ≡ true
any_at p [] ys x here = rw here refl
any_at p (w ∷ xs) ys x here = later p w (xs ++ x ∷ ys) (any_at p xs ys x here)

-- a key that was there before appears twice
distinct_twice : {A : Type 0} (key : A → ℕ) (xs ys : List A) (x : A) → list_any (λ y. key y == key x) xs ≡ true → is_distinct key (xs ++ x ∷ ys) ≡ false
distinct_twice key [] ys x some = cc some
distinct_twice key (z ∷ xs) ys x some = elim (cases_eq (key z) (key x)) [
  | inl same ↦ rw (any_at (λ y. key y == key z) xs ys x (eq-eqb (key x) (key z) (sym same))) refl
  | inr other ↦
      let rest : list_any (λ y. key y == key x) xs ≡ true = rw (ne_eqb (key z) (key x) other) at some in
      elim (cases_Bool (list_any (λ y. key y == key z) (xs ++ x ∷ ys))) [
        | inl twice ↦ rw twice refl
        | inr once ↦ rw once (distinct_twice key xs ys x rest)
      ]
]

-- a new key after distinct ones
distinct_once : {A : Type 0} (key : A → ℕ) (xs : List A) (x : A) → is_distinct key xs ≡ true → list_any (λ y. key y == key x) xs ≡ false → is_distinct key (xs ++ x ∷ []) ≡ true
distinct_once key [] x once none = refl
distinct_once key (z ∷ xs) x once none =
    let parts = distinct_parts key z xs once in
    let first : (key z == key x) ≡ false = any_false_at (λ y. key y == key x) (z ∷ xs) z none (inl refl) in
    let rest : list_any (λ y. key y == key x) xs ≡ false = any_false_from (λ y. key y == key x) xs (λ y here. any_false_at (λ y. key y == key x) (z ∷ xs) y none (inr here)) in
    let other : (key x == key z) ≡ false = ne_eqb (key x) (key z) (λ e. cc (sym (eq-eqb (key z) (key x) (sym e)) ∙ first)) in
    let none_z : list_any (λ y. key y == key z) (xs ++ x ∷ []) ≡ false = any-append (λ y. key y == key z) xs x ∙ rw (parts.0, other) refl in
    distinct_from key z (xs ++ x ∷ []) none_z (distinct_once key xs x parts.1 rest)

-- one more step, whose node hasn't been seen
pub seen_next : (nodes : ℕ) (ss : List Stream) (steps : List Step) (seen : List Bool) (i : ℕ) (d : Step) → i < length steps → begin_of nodes ss (get_or steps i d) < length seen
    → AreSeen nodes ss (take i steps) seen → AreSeen nodes ss (take (i + 1) steps) (set seen (begin_of nodes ss (get_or steps i d)) true)
seen_next nodes ss steps seen i d lt within so_far = λ n le.
    let node = begin_of nodes ss (get_or steps i d) in
    let more : list_any (λ step. begin_of nodes ss step == n) (take (i + 1) steps) ≡ (list_any (λ step. begin_of nodes ss step == n) (take i steps) || (node == n)) =
    ap (list_any (λ step. begin_of nodes ss step == n)) (take_more steps i d lt) ∙ any-append (λ step. begin_of nodes ss step == n) (take i steps) (get_or steps i d) in
    elim (cases_eq n node) [
      | inl same ↦
          let is : get_or (set seen node true) n false ≡ true = ap (λ (m : ℕ). get_or (set seen node true) m false) same ∙ get_or-set_same seen node true false within in
          is ∙ sym (more ∙ or_right (list_any (λ step. begin_of nodes ss step == n) (take i steps)) (node == n) (eq-eqb node n (sym same)))
      | inr other ↦
          let is : get_or (set seen node true) n false ≡ get_or seen n false = get_or-set_other seen node n true false other in
          let no : (node == n) ≡ false = ne_eqb node n (λ e. other (sym e)) in
          is ∙ so_far n le ∙ sym (more ∙ rw no (or_false (list_any (λ step. begin_of nodes ss step == n) (take i steps))))
    ]
  where
    or_false : (b : Bool) → (b || false) ≡ b
    or_false true = refl
    or_false false = refl

pub once_next : (nodes : ℕ) (ss : List Stream) (steps : List Step) (seen : List Bool) (i : ℕ) (d : Step) → i < length steps → begin_of nodes ss (get_or steps i d) ≤ nodes
    → AreSeen nodes ss (take i steps) seen → get_or seen (begin_of nodes ss (get_or steps i d)) false ≡ false → is_distinct (begin_of nodes ss) (take i steps) ≡ true
    → is_distinct (begin_of nodes ss) (take (i + 1) steps) ≡ true
once_next nodes ss steps seen i d lt le so_far new once =
    ap (is_distinct (begin_of nodes ss)) (take_more steps i d lt)
    ∙ distinct_once (begin_of nodes ss) (take i steps) (get_or steps i d) once (sym (so_far (begin_of nodes ss (get_or steps i d)) le) ∙ new)

-- a step whose node is seen
pub seen_twice : (nodes : ℕ) (ss : List Stream) (steps : List Step) (seen : List Bool) (i : ℕ) (d : Step) → i < length steps → begin_of nodes ss (get_or steps i d) ≤ nodes
    → AreSeen nodes ss (take i steps) seen → get_or seen (begin_of nodes ss (get_or steps i d)) false ≡ true → is_distinct (begin_of nodes ss) steps ≡ false
seen_twice nodes ss steps seen i d lt le so_far old =
    let whole : steps ≡ take i steps ++ get_or steps i d ∷ drop (i + 1) steps = sym (take-append-drop i steps) ∙ ap (λ (l : List Step). take i steps ++ l) (drop_next steps i d lt) in
    ap (is_distinct (begin_of nodes ss)) whole
    ∙ distinct_twice (begin_of nodes ss) (take i steps) (drop (i + 1) steps) (get_or steps i d) (sym (so_far (begin_of nodes ss (get_or steps i d)) le) ∙ old)

-- steps begin where the first one does
pub start_first : (g : ProcessGraph) (steps : List Step) (t : Step) → Some t ≡ slice_get steps 0 → (begin_of g.nodes g.streams t ≡ start_of g steps) × (0 < length steps)
start_first g [] t e = cc e
start_first g (u ∷ us) t e = (ap (begin_of g.nodes g.streams) (some_same e), omega arith)
