-- Walks on which no node appears twice, in a set of streams without a cycle.
use Rattle.std.proofs.Common.{◌≡◌, ◌≢◌, ◌∙◌, ◌⊎◌, ℕ, Bool, true, false, not, ◌==◌, List, [], ◌∷◌, Option, Some, slice_get, ap, ap₂, sym, refl, subst, inl, inr}
use Rattle.std.specs.List.{list_any}
use Rattle.std.proofs.lemmas.Bool.{cases_Bool, cases_eq, and_parts, and_from, or_parts, not-true, not_from_false, eq-eqb, ne_eqb}
use Rattle.pb_graph.specs.declared.records.Stream.{Stream}
use Rattle.pb_graph.specs.declared.records.Step.{Step}
use Rattle.pb_graph.specs.Walk.{along, ends_of, Walks, Reaches, any_stream}
use Rattle.pb_graph.specs.Cycle.{is_distinct, first_or, begin_of}
use Rattle.pb_graph.specs.Path.{IsPath}
use Rattle.pb_graph.proofs.WalkLemmas.{some_same, ends_is, stream_of, ends_back, reach_one, reach_both, reach_back, IsWithin, ends_more, reach_more}
use Rattle.pb_forest.specs.Laws.{except, IsAcyclic, IsPart, UniqueLaw, PartLaw}
use Rattle.pb_forest.proofs.SpansLemmas.{joins_ends}

-- a step begins at the same node, whatever else may be taken
pub begin_is : (may : ℕ → Stream → Bool) (nodes : ℕ) (ss : List Stream) (t : Step) (a c : ℕ) → ends_of may ss t ≡ Some (a, c) → begin_of nodes ss t ≡ a
begin_is may nodes ss t a c e = ap (first_or nodes) (ends_more may any_stream ss t (a, c) (λ k s at ok. refl) e)

-- after the first step of a path comes a path
pub path_rest : (ends : Step → Option (ℕ × ℕ)) (nodes : ℕ) (ss : List Stream) (a b : ℕ) (t : Step) (rest : List Step) → IsPath ends nodes ss a (t ∷ rest) b
    → (c : ℕ) × (ends t ≡ Some (a, c)) × IsPath ends nodes ss c rest b
path_rest ends nodes ss a b t rest path =
    let (c, e, w) = path.walk in (
      c,
      e,
      record {
        walk = w;
        once = (and_parts (not (list_any (λ y. begin_of nodes ss y == begin_of nodes ss t) rest)) (is_distinct (begin_of nodes ss) rest) path.once).1;
        last = (or_parts (begin_of nodes ss t == b) (list_any (λ y. begin_of nodes ss y == b) rest) path.last).1;
      },
    )

-- a path that takes a step leaves the node where it begins
leaves : (may : ℕ → Stream → Bool) (nodes : ℕ) (ss : List Stream) (a b c : ℕ) (t : Step) (rest : List Step) → IsPath (ends_of may ss) nodes ss a (t ∷ rest) b
    → ends_of may ss t ≡ Some (a, c) → (b ≢ a) × (list_any (λ y. begin_of nodes ss y == a) rest ≡ false)
leaves may nodes ss a b c t rest path e =
    let begin = begin_is may nodes ss t a c e in
    let here : (begin_of nodes ss t == b) ≡ false = (or_parts (begin_of nodes ss t == b) (list_any (λ y. begin_of nodes ss y == b) rest) path.last).0 in
    let later = not-true (list_any (λ y. begin_of nodes ss y == begin_of nodes ss t) rest)
    (and_parts (not (list_any (λ y. begin_of nodes ss y == begin_of nodes ss t) rest)) (is_distinct (begin_of nodes ss) rest) path.once).0 in
    ((λ z. cc (sym here ∙ eq-eqb (begin_of nodes ss t) b (begin ∙ sym z))), subst (λ (n : ℕ). list_any (λ y. begin_of nodes ss y == n) rest ≡ false) begin later)

-- a walk that never begins a step at a node, and ends elsewhere, doesn't begin there
not_there : (may : ℕ → Stream → Bool) (nodes : ℕ) (ss : List Stream) (a b d : ℕ) (steps : List Step) → b ≢ a → Walks (ends_of may ss) d steps b
    → list_any (λ y. begin_of nodes ss y == a) steps ≡ false → d ≢ a
not_there may nodes ss a b d [] out w none is = out (sym w ∙ is)
not_there may nodes ss a b d (t ∷ rest) out (c, e, w) none is =
    let here = (or_parts (begin_of nodes ss t == a) (list_any (λ y. begin_of nodes ss y == a) rest) none).0 in
    cc (sym here ∙ eq-eqb (begin_of nodes ss t) a (begin_is may nodes ss t d c e ∙ is))

-- a second step along a stream begins where the first one does, or ends there
two_ways : (s : Stream) (f g : Bool) (a n c d : ℕ) → along f s ≡ (a, n) → along g s ≡ (c, d) → (c ≡ a) ⊎ (d ≡ a)
two_ways s true true a n c d x y = inl (sym (ap (λ (p : ℕ × ℕ). p.0) y) ∙ ap (λ (p : ℕ × ℕ). p.0) x)
two_ways s true false a n c d x y = inr (sym (ap (λ (p : ℕ × ℕ). p.1) y) ∙ ap (λ (p : ℕ × ℕ). p.0) x)
two_ways s false true a n c d x y = inr (sym (ap (λ (p : ℕ × ℕ). p.1) y) ∙ ap (λ (p : ℕ × ℕ). p.0) x)
two_ways s false false a n c d x y = inl (sym (ap (λ (p : ℕ × ℕ). p.0) y) ∙ ap (λ (p : ℕ × ℕ). p.0) x)

-- a walk that is never at a node takes no stream from there
not_again : (may : ℕ → Stream → Bool) (nodes : ℕ) (ss : List Stream) (a b c n : ℕ) (t : Step) (rest : List Step) → ends_of may ss t ≡ Some (a, n) → b ≢ a
    → Walks (ends_of may ss) c rest b → list_any (λ y. begin_of nodes ss y == a) rest ≡ false → list_any (λ y. y.stream == t.stream) rest ≡ false
not_again may nodes ss a b c n t [] e out w none = refl
not_again may nodes ss a b c n t (u ∷ us) e out (d, f, w) none =
    let parts = or_parts (begin_of nodes ss u == a) (list_any (λ y. begin_of nodes ss y == a) us) none in
    let more = not_again may nodes ss a b d n t us e out w parts.1 in
    elim (cases_eq u.stream t.stream) [
      | inr other ↦ rw (ne_eqb u.stream t.stream other) more
      | inl same ↦
          let (s, at, ok, goes) = stream_of may ss t (a, n) e in
          let (v, at_u, ok_u, goes_u) = stream_of may ss u (c, d) f in
          let is : v ≡ s = some_same (sym at_u ∙ ap (λ (i : ℕ). slice_get ss i) same ∙ at) in
          elim (two_ways s t.forward u.forward a n c d goes (ap (along u.forward) (sym is) ∙ goes_u)) [
            | inl begins ↦ cc (sym parts.0 ∙ eq-eqb (begin_of nodes ss u) a (begin_is may nodes ss u c d f ∙ begins))
            | inr ends ↦ absurd (not_there may nodes ss a b d us out w parts.1 ends)
          ]
    ]

-- a walk that doesn't take a stream is a walk without it
pub walk_without : (may : ℕ → Stream → Bool) (ss : List Stream) (j a b : ℕ) (steps : List Step) → Walks (ends_of may ss) a steps b
    → list_any (λ y. y.stream == j) steps ≡ false → Walks (ends_of (except j may) ss) a steps b
walk_without may ss j a b [] w none = w
walk_without may ss j a b (t ∷ rest) (c, e, w) none =
    let parts = or_parts (t.stream == j) (list_any (λ y. y.stream == j) rest) none in
    let (s, at, ok, goes) = stream_of may ss t (a, c) e in (
      c,
      ends_is (except j may) ss t.stream s t.forward at (and_from _ _ ok (not_from_false (t.stream == j) parts.0)) ∙ ap (λ (q : ℕ × ℕ). Some q) goes,
      walk_without may ss j c b rest w parts.1,
    )

-- a path takes no stream twice
pub streams_once : (may : ℕ → Stream → Bool) (nodes : ℕ) (ss : List Stream) (a b : ℕ) (steps : List Step) → IsPath (ends_of may ss) nodes ss a steps b
    → is_distinct (λ (t : Step). t.stream) steps ≡ true
streams_once may nodes ss a b [] path = refl
streams_once may nodes ss a b (t ∷ rest) path =
    let (c, e, later) = path_rest (ends_of may ss) nodes ss a b t rest path in
    let (out, none) = leaves may nodes ss a b c t rest path e in
    and_from (not (list_any (λ (y : Step). y.stream == t.stream) rest)) (is_distinct (λ (y : Step). y.stream) rest)
    (not_from_false (list_any (λ (y : Step). y.stream == t.stream) rest) (not_again may nodes ss a b c c t rest e out later.walk none))
    (streams_once may nodes ss c b rest later)

-- after its first step a path goes on without that stream
rest_without : (may : ℕ → Stream → Bool) (nodes : ℕ) (ss : List Stream) (a b c : ℕ) (t : Step) (rest : List Step) → IsPath (ends_of may ss) nodes ss a (t ∷ rest) b
    → ends_of may ss t ≡ Some (a, c) → Walks (ends_of may ss) c rest b → Reaches (ends_of (except t.stream may) ss) c b
rest_without may nodes ss a b c t rest path e w =
    let (out, none) = leaves may nodes ss a b c t rest path e in
    (rest, walk_without may ss t.stream c b rest w (not_again may nodes ss a b c c t rest e out w none))

empty_not : (may : ℕ → Stream → Bool) (nodes : ℕ) (ss : List Stream) (a b : ℕ) (t : Step) (rest : List Step) → a ≡ b → IsPath (ends_of may ss) nodes ss a (t ∷ rest) b → ⊥
empty_not may nodes ss a b t rest same path =
    let (c, e, w) = path.walk in
    (leaves may nodes ss a b c t rest path e).0 (sym same)

-- two steps along one stream from one node are the same
same_way : (s : Stream) (f g : Bool) (a c d : ℕ) → s.from ≢ s.to → along f s ≡ (a, c) → along g s ≡ (a, d) → (f ≡ g) × (d ≡ c)
same_way s true true a c d ne x y = (refl, sym (ap (λ (p : ℕ × ℕ). p.1) y) ∙ ap (λ (p : ℕ × ℕ). p.1) x)
same_way s true false a c d ne x y = absurd (ne (ap (λ (p : ℕ × ℕ). p.0) x ∙ sym (ap (λ (p : ℕ × ℕ). p.0) y)))
same_way s false true a c d ne x y = absurd (ne (ap (λ (p : ℕ × ℕ). p.0) y ∙ sym (ap (λ (p : ℕ × ℕ). p.0) x)))
same_way s false false a c d ne x y = (refl, sym (ap (λ (p : ℕ × ℕ). p.1) y) ∙ ap (λ (p : ℕ × ℕ). p.1) x)

pub unique_law : UniqueLaw
unique_law ss may nodes a b [] [] acyclic x y = refl
unique_law ss may nodes a b [] (u ∷ us) acyclic x y = absurd (empty_not may nodes ss a b u us x.walk y)
unique_law ss may nodes a b (t ∷ ts) [] acyclic x y = absurd (empty_not may nodes ss a b t ts y.walk x)
unique_law ss may nodes a b (t ∷ ts) (u ∷ us) acyclic x y =
    let ends = ends_of may ss in
    let (c, e, px) = path_rest ends nodes ss a b t ts x in
    let (d, f, py) = path_rest ends nodes ss a b u us y in
    let (s, at, ok, goes) = stream_of may ss t (a, c) e in
    let (v, at_u, ok_u, goes_u) = stream_of may ss u (a, d) f in
    elim (cases_eq u.stream t.stream) [
      | inl same ↦
          let is : v ≡ s = some_same (sym at_u ∙ ap (λ (i : ℕ). slice_get ss i) same ∙ at) in
          let ne : s.from ≢ s.to = λ z. acyclic t.stream s at ok ([], z) in
          let (way, stop) = same_way s t.forward u.forward a c d ne goes (ap (along u.forward) (sym is) ∙ goes_u) in
          let other : IsPath ends nodes ss c us b = subst (λ (n : ℕ). IsPath ends nodes ss n us b) stop py in
          let first : t ≡ u = ap₂ (λ (k : ℕ) (h : Bool). record { stream = k; forward = h }) (sym same) way in
          ap₂ (λ (w : Step) (ws : List Step). w ∷ ws) first (unique_law ss may nodes c b ts us acyclic px other)
      | inr other ↦
          let less = except t.stream may in
          let rest = ends_of less ss in
          let down = rest_without may nodes ss a b c t ts x e px.walk in
          let (out, none) = leaves may nodes ss a b c t ts x e in
          let (out_u, none_u) = leaves may nodes ss a b d u us y f in
          let along_us : Reaches rest d b = (us, walk_without may ss t.stream d b us py.walk (not_again may nodes ss a b d c t us e out py.walk none_u)) in
          let one : Reaches rest a d = reach_one rest a d u
          (ends_is less ss u.stream v u.forward at_u (and_from _ _ ok_u (not_from_false (u.stream == t.stream) (ne_eqb u.stream t.stream other))) ∙ ap (λ (q : ℕ × ℕ). Some q) goes_u) in
          let round : Reaches rest a c = reach_both rest a b c (reach_both rest a d b one along_us) (reach_back less ss c b down) in
          absurd (acyclic t.stream s at ok (joins_ends less ss s t.forward a c goes round))
    ]

part_walk : (ss : List Stream) (may some : ℕ → Stream → Bool) (nodes a b : ℕ) (p : List Step) → IsAcyclic ss may → IsPart ss some may
    → IsPath (ends_of may ss) nodes ss a p b → Reaches (ends_of some ss) a b → Walks (ends_of some ss) a p b
part_walk ss may some nodes a b [] acyclic part path r = path.walk
part_walk ss may some nodes a b (t ∷ ts) acyclic part path r =
    let (c, e, rest) = path_rest (ends_of may ss) nodes ss a b t ts path in
    let (s, at, ok, goes) = stream_of may ss t (a, c) e in
    elim (cases_Bool (some t.stream s)) [
      | inl in_part ↦
          let here : ends_of some ss t ≡ Some (a, c) = ends_is some ss t.stream s t.forward at in_part ∙ ap (λ (q : ℕ × ℕ). Some q) goes in
          let back = reach_one (ends_of some ss) c a (record { stream = t.stream; forward = not t.forward }) (ends_back some ss t a c here) in
          (c, here, part_walk ss may some nodes c b ts acyclic part rest (reach_both (ends_of some ss) c a b back r))
      | inr outside ↦
          let less = except t.stream may in
          let wide : IsWithin ss some less = λ k u at_u in_part. elim (cases_eq k t.stream) [
            | inl same ↦
                let is : u ≡ s = some_same (sym at_u ∙ ap (λ (i : ℕ). slice_get ss i) same ∙ at) in
                cc (sym outside ∙ ap₂ some (sym same) (sym is) ∙ in_part)
            | inr other ↦ and_from _ _ (part k u at_u in_part) (not_from_false (k == t.stream) (ne_eqb k t.stream other))
          ] in
          let down = rest_without may nodes ss a b c t ts path e rest.walk in
          let round = reach_both (ends_of less ss) a b c (reach_more some less ss a b wide r) (reach_back less ss c b down) in
          absurd (acyclic t.stream s at ok (joins_ends less ss s t.forward a c goes round))
    ]

pub part_law : PartLaw
part_law ss may some nodes a b p acyclic part path r = record { walk = part_walk ss may some nodes a b p acyclic part path r; once = path.once; last = path.last }
