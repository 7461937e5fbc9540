-- Whether a walk leads from one node to another is decided, stream by stream.
use Rattle.std.proofs.Common.{◌≡◌, ◌≢◌, ◌⊎◌, ◌∙◌, ℕ, zero, suc, ◌+◌, ◌<◌, ◌≤◌, Bool, true, false, ◌&&◌, nat_lt, List, [], ◌∷◌, ◌++◌, length, Option, Some, None, slice_get, get_or, ap, ap₂, sym, refl, subst, inl, inr, arith, length-append}
use Rattle.std.proofs.lemmas.Bool.{cases_Bool, cases_eq, cases_lt, and_parts, and_from, ltb-true, lt-ltb}
use Rattle.std.proofs.lemmas.List.{get_or_append_left, get_or_past, get_or_push}
use Rattle.std.proofs.lemmas.Option.{slice_get_within, slice_get-get_or}
use Rattle.pb_graph.specs.declared.records.Stream.{Stream}
use Rattle.pb_graph.specs.declared.records.Step.{Step}
use Rattle.pb_graph.specs.ProcessGraph.{IsStream}
use Rattle.pb_graph.specs.Walk.{along, ends_of, Walks, Reaches, IsReach}
use Rattle.pb_graph.proofs.WalkLemmas.{some_same, ends_is, stream_of, along_within, reach_none, reach_one, reach_both, reach_back, IsWithin, reach_more, walk_keeps}

-- a walk that may take stream s too: without it, or through it forward, or through it backward
abbrev pub Cases : (Step → Option (ℕ × ℕ)) → Stream → ℕ → ℕ → Type 0
Cases ends s a b = Reaches ends a b ⊎ ((Reaches ends a s.from × Reaches ends s.to b) ⊎ (Reaches ends a s.to × Reaches ends s.from b))

prefix : (ends : Step → Option (ℕ × ℕ)) (s : Stream) (a c b : ℕ) → Reaches ends a c → Cases ends s c b → Cases ends s a b
prefix ends s a c b r tail = elim tail [
  | inl q ↦ inl (reach_both ends a c b r q)
  | inr more ↦ elim more [
    | inl (p, q) ↦ inr (inl (reach_both ends a c s.from r p, q))
    | inr (p, q) ↦ inr (inr (reach_both ends a c s.to r p, q))
  ]
]

over_forward : (ends : Step → Option (ℕ × ℕ)) (s : Stream) (b : ℕ) → Cases ends s s.to b → Cases ends s s.from b
over_forward ends s b tail = elim tail [
  | inl q ↦ inr (inl (reach_none ends s.from, q))
  | inr more ↦ elim more [
    | inl (p, q) ↦ inr (inl (reach_none ends s.from, q))
    | inr (p, q) ↦ inl q
  ]
]

over_backward : (ends : Step → Option (ℕ × ℕ)) (s : Stream) (b : ℕ) → Cases ends s s.from b → Cases ends s s.to b
over_backward ends s b tail = elim tail [
  | inl q ↦ inr (inr (reach_none ends s.to, q))
  | inr more ↦ elim more [
    | inl (p, q) ↦ inl q
    | inr (p, q) ↦ inr (inr (reach_none ends s.to, q))
  ]
]

-- a step along the stream itself
over : (ends : Step → Option (ℕ × ℕ)) (s : Stream) (forward : Bool) (a c b : ℕ) → along forward s ≡ (a, c) → Cases ends s c b → Cases ends s a b
over ends s true a c b e tail =
    subst (λ (n : ℕ). Cases ends s n b) (ap (λ (p : ℕ × ℕ). p.0) e) (over_forward ends s b (subst (λ (n : ℕ). Cases ends s n b) (sym (ap (λ (p : ℕ × ℕ). p.1) e)) tail))
over ends s false a c b e tail =
    subst (λ (n : ℕ). Cases ends s n b) (ap (λ (p : ℕ × ℕ). p.0) e) (over_backward ends s b (subst (λ (n : ℕ). Cases ends s n b) (sym (ap (λ (p : ℕ × ℕ). p.1) e)) tail))

-- all streams of the first test except the j-th pass the second
abbrev pub IsPartBut : List Stream → ℕ → (ℕ → Stream → Bool) → (ℕ → Stream → Bool) → Type 0
IsPartBut ss j more may = (k : ℕ) (t : Stream) → slice_get ss k ≡ Some t → k ≢ j → more k t ≡ true → may k t ≡ true

pub more_cases : (ss : List Stream) (may more : ℕ → Stream → Bool) (j : ℕ) (s : Stream) (a b : ℕ) (steps : List Step) → slice_get ss j ≡ Some s
    → IsPartBut ss j more may → Walks (ends_of more ss) a steps b → Cases (ends_of may ss) s a b
more_cases ss may more j s a b [] at but w = inl ([], w)
more_cases ss may more j s a b (t ∷ rest) at but (c, e, w) =
    let ends = ends_of may ss in
    let (u, here, ok, goes) = stream_of more ss t (a, c) e in
    let tail = more_cases ss may more j s c b rest at but w in
    elim (cases_eq t.stream j) [
      | inl same ↦
          let is : u ≡ s = some_same (sym here ∙ ap (λ (i : ℕ). slice_get ss i) same ∙ at) in
          over ends s t.forward a c b (ap (along t.forward) (sym is) ∙ goes) tail
      | inr other ↦ prefix ends s a c b (reach_one ends a c t (ends_is may ss t.stream u t.forward here (but t.stream u here other ok) ∙ ap (λ (q : ℕ × ℕ). Some q) goes)) tail
    ]

-- ---- the first streams of a test
-- the streams of a test below a place
abbrev below : (ℕ → Stream → Bool) → ℕ → ℕ → Stream → Bool
below may i k t = may k t && nat_lt k i

below_none : (ss : List Stream) (may : ℕ → Stream → Bool) (a b : ℕ) (steps : List Step) → Walks (ends_of (below may 0) ss) a steps b → a ≡ b
below_none ss may a b [] w = w
below_none ss may a b (t ∷ rest) (c, e, w) =
    let (s, at, ok, goes) = stream_of (below may 0) ss t (a, c) e in
    let lt = ltb-true t.stream 0 (and_parts (may t.stream s) (nat_lt t.stream 0) ok).1 in
    absurd (omega arith)

below_earlier : (may : ℕ → Stream → Bool) (i k : ℕ) (t : Stream) → (k ≡ i → ⊥) → below may (i + 1) k t ≡ true → below may i k t ≡ true
below_earlier may i k t ne h =
    let parts = and_parts (may k t) (nat_lt k (i + 1)) h in
    let lt = ltb-true k (i + 1) parts.1 in
    and_from (may k t) (nat_lt k i) parts.0 (lt-ltb k i (omega (arith, lt, ne)))

below_later : (may : ℕ → Stream → Bool) (i k : ℕ) (t : Stream) → below may i k t ≡ true → below may (i + 1) k t ≡ true
below_later may i k t h =
    let parts = and_parts (may k t) (nat_lt k i) h in
    let lt = ltb-true k i parts.1 in
    and_from (may k t) (nat_lt k (i + 1)) parts.0 (lt-ltb k (i + 1) (omega (arith, lt)))

-- ---- decisions
abbrev pub IsDecidable : Type 0 → Type 0
IsDecidable P = P ⊎ (P → ⊥)

decided_both : {P Q : Type 0} → IsDecidable P → IsDecidable Q → IsDecidable (P × Q)
decided_both p q = elim p [
  | inl x ↦ elim q [ inl y ↦ inl (x, y) | inr out ↦ inr (λ r. out r.1) ]
  | inr out ↦ inr (λ r. out r.0)
]

decided_either : {P Q : Type 0} → IsDecidable P → IsDecidable Q → IsDecidable (P ⊎ Q)
decided_either p q = elim p [
  | inl x ↦ inl (inl x)
  | inr out ↦ elim q [ inl y ↦ inl (inr y) | inr never ↦ inr (λ r. elim r [ inl x ↦ out x | inr y ↦ never y ]) ]
]

decided_as : {P Q : Type 0} → (P → Q) → (Q → P) → IsDecidable P → IsDecidable Q
decided_as forth back p = elim p [ inl x ↦ inl (forth x) | inr out ↦ inr (λ y. out (back y)) ]

-- ---- stream by stream
abbrev AllDecided : List Stream → (ℕ → Stream → Bool) → Type 0
AllDecided ss may = (a b : ℕ) → IsDecidable (Reaches (ends_of may ss) a b)

-- if one more stream may be taken
decided_more : (ss : List Stream) (may more : ℕ → Stream → Bool) (j : ℕ) (s : Stream) → slice_get ss j ≡ Some s → more j s ≡ true → IsWithin ss may more → IsPartBut ss j more may
    → AllDecided ss may → AllDecided ss more
decided_more ss may more j s at ok within but decided a b =
    let ends = ends_of more ss in
    let wide : (x y : ℕ) → Reaches (ends_of may ss) x y → Reaches ends x y = λ x y r. reach_more may more ss x y within r in
    let forth : Reaches ends s.from s.to = reach_one ends s.from s.to (record { stream = j; forward = true }) (ends_is more ss j s true at ok) in
    let back : Reaches ends s.to s.from = reach_back more ss s.from s.to forth in
    decided_as {P = Cases (ends_of may ss) s a b} {Q = Reaches ends a b}
    (λ r. elim r [
      | inl x ↦ wide a b x
      | inr through ↦ elim through [
        | inl (x, y) ↦ reach_both ends a s.from b (wide a s.from x) (reach_both ends s.from s.to b forth (wide s.to b y))
        | inr (x, y) ↦ reach_both ends a s.to b (wide a s.to x) (reach_both ends s.to s.from b back (wide s.from b y))
      ]
    ])
    (λ (steps, w). more_cases ss may more j s a b steps at but w)
    (decided_either (decided a b) (decided_either (decided_both (decided a s.from) (decided s.to b)) (decided_both (decided a s.to) (decided s.from b))))

decided_below : (ss : List Stream) (may : ℕ → Stream → Bool) (i : ℕ) → i ≤ length ss → AllDecided ss (below may i)
decided_below ss may zero le = λ a b. elim (cases_eq a b) [ inl e ↦ inl ([], e) | inr ne ↦ inr (λ r. ne (below_none ss may a b r.0 r.1)) ]
decided_below ss may (suc i) le =
    let before = decided_below ss may i (omega (arith, le)) in
    let next : i + 1 ≡ suc i = omega arith in
    let s : Stream = get_or ss i (record { from = 0; to = 0; meas = None }) in
    let at : slice_get ss i ≡ Some s = slice_get-get_or ss i _ (omega (arith, le)) in
    subst (λ (n : ℕ). AllDecided ss (below may n)) next (elim (cases_Bool (may i s)) [
      | inl ok ↦ decided_more ss (below may i) (below may (i + 1)) i s at (and_from (may i s) (nat_lt i (i + 1)) ok (lt-ltb i (i + 1) (omega arith)))
          (λ k t here h. below_later may i k t h) (λ k t here ne h. below_earlier may i k t ne h) before
      | inr out ↦
          let same : IsWithin ss (below may (i + 1)) (below may i) = λ k t here h. elim (cases_eq k i) [
            | inl e ↦
                let is : s ≡ t = some_same (sym at ∙ ap (λ (n : ℕ). slice_get ss n) (sym e) ∙ here) in
                let ok : may k t ≡ true = (and_parts (may k t) (nat_lt k (i + 1)) h).0 in
                cc (sym out ∙ ap (may i) is ∙ ap (λ (n : ℕ). may n t) (sym e) ∙ ok)
            | inr ne ↦ below_earlier may i k t ne h
          ] in
          λ a b. decided_as (reach_more (below may i) (below may (i + 1)) ss a b (λ k t here h. below_later may i k t h)) (reach_more (below may (i + 1)) (below may i) ss a b same) (before a b)
    ])

-- some walk over the streams of a test leads from one node to another, or none does
pub reach_decided : (ss : List Stream) (may : ℕ → Stream → Bool) (a b : ℕ) → IsDecidable (Reaches (ends_of may ss) a b)
reach_decided ss may a b = decided_as
    (reach_more (below may (length ss)) may ss a b (λ k t here h. (and_parts (may k t) (nat_lt k (length ss)) h).0))
    (reach_more may (below may (length ss)) ss a b (λ k t here h. and_from (may k t) (nat_lt k (length ss)) h (lt-ltb k (length ss) (slice_get_within ss k t here))))
    (decided_below ss may (length ss) (omega arith) a b)

-- ---- the nodes that a node reaches
-- a list of bits for the first n numbers, each true exactly when a fact holds
record Marked (P : ℕ → Type 0) (n : ℕ) : Type 0 where
  pub marks : List Bool
  pub each : length marks ≡ n
  pub tell : (k : ℕ) → k < n → (get_or marks k false ≡ true → P k) × (P k → get_or marks k false ≡ true)

mark_of : {P : Type 0} → IsDecidable P → (b : Bool) × ((b ≡ true → P) × (P → b ≡ true))
mark_of p = elim p [ inl x ↦ (true, ((λ e. x), (λ y. refl))) | inr out ↦ (false, ((λ e. cc e), (λ y. absurd (out y)))) ]

marked : (P : ℕ → Type 0) (n : ℕ) → ((k : ℕ) → IsDecidable (P k)) → Marked P n
marked P zero decided = record { marks = []; each = refl; tell = λ k lt. absurd (omega (arith, lt)) }
marked P (suc n) decided =
    let less = marked P n decided in
    let (b, says) = mark_of (decided n) in
    record {
      marks = less.marks ++ b ∷ [];
      each = omega (arith, length-append less.marks (b ∷ []), less.each);
      tell = λ k lt. elim (cases_eq k n) [
        | inl e ↦
            let is : get_or (less.marks ++ b ∷ []) k false ≡ b = get_or_push less.marks b false k (less.each ∙ sym e) in
            subst (λ (m : ℕ). (get_or (less.marks ++ b ∷ []) k false ≡ true → P m) × (P m → get_or (less.marks ++ b ∷ []) k false ≡ true)) (sym e)
            ((λ h. says.0 (sym is ∙ h)), (λ p. is ∙ says.1 p))
        | inr ne ↦
            let within : k < n = omega (arith, lt, ne) in
            let is : get_or (less.marks ++ b ∷ []) k false ≡ get_or less.marks k false = get_or_append_left less.marks (b ∷ []) false k (omega (arith, within, less.each)) in
            let said = less.tell k within in
            ((λ h. said.0 (sym is ∙ h)), (λ p. is ∙ said.1 p))
      ];
    }

pub some_reach : (ss : List Stream) (nodes : ℕ) (may : ℕ → Stream → Bool) (a : ℕ) → a < nodes → ((k : ℕ) (t : Stream) → slice_get ss k ≡ Some t → IsStream nodes t)
    → (side : List Bool) × IsReach (ends_of may ss) nodes a side
some_reach ss nodes may a lt each =
    let ends = ends_of may ss in
    let made = marked (λ n. Reaches ends a n) nodes (λ n. reach_decided ss may a n) in (
      made.marks,
      record {
        each = made.each;
        reached = λ n h. elim (cases_lt n nodes) [
          | inl less ↦ (made.tell n less).0 h
          | inr past ↦ cc (sym (get_or_past made.marks n false (omega (arith, past, made.each))) ∙ h)
        ];
        whole = λ n r.
            let less : n < nodes = walk_keeps ends (λ m. m < nodes) a n r.0 (λ t x y e lx.
            let (u, at, ok, goes) = stream_of may ss t (x, y) e in
            (along_within nodes u t.forward x y (each t.stream u at) goes).1) r.1 lt in
            (made.tell n less).1 r;
      },
    )

-- bits that agree are the same list
bits_same : (xs ys : List Bool) → length xs ≡ length ys → ((n : ℕ) → get_or xs n false ≡ true → get_or ys n false ≡ true) → ((n : ℕ) → get_or ys n false ≡ true → get_or xs n false ≡ true) → xs ≡ ys
bits_same [] [] size there back = refl
bits_same [] (y ∷ ys) size there back = absurd (omega (arith, size))
bits_same (x ∷ xs) [] size there back = absurd (omega (arith, size))
bits_same (x ∷ xs) (y ∷ ys) size there back = ap₂ (λ (b : Bool) (l : List Bool). b ∷ l) (same_bit x y (there 0) (back 0)) (bits_same xs ys (omega (arith, size)) (λ n. there (suc n)) (λ n. back (suc n)))
  where
    same_bit : (a b : Bool) → (a ≡ true → b ≡ true) → (b ≡ true → a ≡ true) → a ≡ b
    same_bit true b f g = sym (f refl)
    same_bit false true f g = g refl
    same_bit false false f g = refl

-- there is only one set of nodes that a node reaches
pub one_reach : (ends : Step → Option (ℕ × ℕ)) (nodes node : ℕ) (one other : List Bool) → IsReach ends nodes node one → IsReach ends nodes node other → one ≡ other
one_reach ends nodes node one other is also =
    bits_same one other (is.each ∙ sym also.each) (λ n h. also.whole n (is.reached n h)) (λ n h. is.whole n (also.reached n h))
