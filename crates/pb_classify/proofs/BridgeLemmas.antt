-- A held unmeasured stream is a bridge of the unmeasured streams exactly when the points of its lower end are below that end.
use Rattle.std.proofs.Common.{◌≡◌, ◌≢◌, ◌∙◌, ℕ, ◌<◌, ◌≤◌, Bool, true, false, not, ◌==◌, List, Option, Some, slice_get, get_or, [], ap, ap₂, sym, refl, subst, inl, inr, arith}
use Rattle.std.proofs.lemmas.Bool.{cases_Bool, and_parts, and_from, not_from_false, not-true, ne_eqb}
use Rattle.pb_fixed.proofs.Lists.{all_each}
use Rattle.pb_graph.specs.declared.records.Stream.{Stream}
use Rattle.pb_graph.specs.declared.records.Step.{Step}
use Rattle.pb_graph.specs.ProcessGraph.{ProcessGraph, IsProcessGraph, IsStream}
use Rattle.pb_graph.specs.Walk.{along, ends_of, unmeasured, unmeasured_but, Reaches}
use Rattle.pb_graph.specs.Path.{is_open}
use Rattle.pb_graph.proofs.WalkLemmas.{some_same, ends_is, stream_of, along_within, reach_one, reach_both, reach_back, IsWithin, reach_more, walk_keeps}
use Rattle.pb_graph.proofs.ReachLemmas.{Cases, more_cases}
use Rattle.pb_forest.specs.Forest.{IsForest}
use Rattle.pb_forest.specs.Laws.{held_unmeasured, except}
use Rattle.pb_forest.proofs.ForestLaws.{spans_law, acyclic_law}
use Rattle.pb_classify.specs.Points.{NodePoints, branch_but, unheld_unmeasured, IsBelow, IsNumbering, Joins, IsLeap, IsCounted, HasPoints, IsApart, IsJoined}
use Rattle.pb_classify.specs.PointLaws.{IsNumberBelow, PointsLaw}

-- ---- which streams pass which test
pub branches_bare : (held : List Bool) (ss : List Stream) → IsWithin ss (held_unmeasured held) unmeasured
branches_bare held ss k t at ok = (and_parts (is_open held k t) (unmeasured k t) ok).1

pub branches_but : (held : List Bool) (j : ℕ) (ss : List Stream) → IsWithin ss (except j (held_unmeasured held)) (unmeasured_but j)
branches_but held j ss k t at ok =
    let parts = and_parts (held_unmeasured held k t) (not (k == j)) ok in
    and_from (unmeasured k t) (not (k == j)) (branches_bare held ss k t at parts.0) parts.1

pub branches_open : (held : List Bool) (j : ℕ) (ss : List Stream) → IsWithin ss (except j (held_unmeasured held)) (except j (is_open held))
branches_open held j ss k t at ok =
    let parts = and_parts (held_unmeasured held k t) (not (k == j)) ok in
    and_from (is_open held k t) (not (k == j)) (and_parts (is_open held k t) (unmeasured k t) parts.0).0 parts.1

pub but_bare : (j : ℕ) (ss : List Stream) → IsWithin ss (unmeasured_but j) unmeasured
but_bare j ss k t at ok = (and_parts (unmeasured k t) (not (k == j)) ok).0

-- an unmeasured stream that isn't held differs from a held one
pub leap_but : (held : List Bool) (k j : ℕ) (s : Stream) → get_or held j false ≡ true → unheld_unmeasured held k s ≡ true → unmeasured_but j k s ≡ true
leap_but held k j s branch leap =
    let parts = and_parts (not (is_open held k s)) (unmeasured k s) leap in
    let out : get_or held k false ≡ false = not-true (get_or held k false) parts.0 in
    let other : k ≢ j = λ e. cc (sym out ∙ ap (λ (i : ℕ). get_or held i false) e ∙ branch) in
    and_from (unmeasured k s) (not (k == j)) parts.1 (not_from_false (k == j) (ne_eqb k j other))

-- ---- steps and ends
pub joins_of : (s : Stream) (forward : Bool) (a b : ℕ) → along forward s ≡ (a, b) → Joins s a b
joins_of s true a b e = inl (ap (λ (p : ℕ × ℕ). p.0) e, ap (λ (p : ℕ × ℕ). p.1) e)
joins_of s false a b e = inr (ap (λ (p : ℕ × ℕ). p.0) e, ap (λ (p : ℕ × ℕ). p.1) e)

-- a node that is joined by a stream that may be taken is reached
pub joins_reach : (may : ℕ → Stream → Bool) (ss : List Stream) (k : ℕ) (s : Stream) (a b : ℕ) → slice_get ss k ≡ Some s → may k s ≡ true → Joins s a b
    → Reaches (ends_of may ss) a b
joins_reach may ss k s a b at ok joins = elim joins [
  | inl (from, to) ↦
      reach_one (ends_of may ss) a b (record { stream = k; forward = true }) (ends_is may ss k s true at ok ∙ ap₂ (λ (x y : ℕ). Some (x, y)) from to)
  | inr (to, from) ↦
      reach_one (ends_of may ss) a b (record { stream = k; forward = false }) (ends_is may ss k s false at ok ∙ ap₂ (λ (x y : ℕ). Some (x, y)) to from)
]

-- what is reached over held streams is a node
pub reach_within : (may : ℕ → Stream → Bool) (nodes : ℕ) (ss : List Stream) (a b : ℕ) → ((k : ℕ) (s : Stream) → slice_get ss k ≡ Some s → IsStream nodes s)
    → a < nodes → Reaches (ends_of may ss) a b → b < nodes
reach_within may nodes ss a b each lt (steps, w) =
    walk_keeps (ends_of may ss) (λ (n : ℕ). n < nodes) a b steps
    (λ t x y e h. let (s, at, ok, goes) = stream_of may ss t (x, y) e in (along_within nodes s t.forward x y (each t.stream s at) goes).1) w lt

-- a node below, over held unmeasured streams other than the one to the parent
pub below_but : (g : ProcessGraph) (held : List Bool) (points : NodePoints) (n j m : ℕ) → points.up n ≡ Some j → IsBelow g held points n m
    → Reaches (ends_of (except j (held_unmeasured held)) g.streams) n m
below_but g held points n j m up below = subst (λ (o : Option ℕ). Reaches (ends_of (branch_but held o) g.streams) n m) up below

pub but_below : (g : ProcessGraph) (held : List Bool) (points : NodePoints) (n j m : ℕ) → points.up n ≡ Some j
    → Reaches (ends_of (except j (held_unmeasured held)) g.streams) n m → IsBelow g held points n m
but_below g held points n j m up below = subst (λ (o : Option ℕ). Reaches (ends_of (branch_but held o) g.streams) n m) (sym up) below

-- ---- both points are below
-- no other unmeasured stream leads out of the nodes below
pub below_closed : (g : ProcessGraph) (held : List Bool) (points : NodePoints) (n j : ℕ) → IsProcessGraph g → IsNumbering g held points → n < g.nodes
    → points.up n ≡ Some j → HasPoints g held points n → points.number n ≤ points.low n → points.high n ≤ points.last n
    → (t : Step) (a b : ℕ) → ends_of (unmeasured_but j) g.streams t ≡ Some (a, b) → IsBelow g held points n a → IsBelow g held points n b
below_closed g held points n j graph numbering lt up has low high t a b e below =
    let (s, at, ok, goes) = stream_of (unmeasured_but j) g.streams t (a, b) e in
    let parts = and_parts (unmeasured t.stream s) (not (t.stream == j)) ok in
    let within : b < g.nodes = (along_within g.nodes s t.forward a b (all_each (IsStream g.nodes) g.streams graph.joins t.stream s at) goes).1 in
    elim (cases_Bool (is_open held t.stream s)) [
      | inl marked ↦
          let passes : except j (held_unmeasured held) t.stream s ≡ true =
          and_from (held_unmeasured held t.stream s) (not (t.stream == j)) (and_from (is_open held t.stream s) (unmeasured t.stream s) marked parts.0) parts.1 in
          let ends = ends_of (except j (held_unmeasured held)) g.streams in
          but_below g held points n j b up
          (reach_both ends n a b (below_but g held points n j a up below) (joins_reach (except j (held_unmeasured held)) g.streams t.stream s a b at passes (joins_of s t.forward a b goes)))
      | inr closed ↦
          let leap : IsLeap g held points n b = record {
            foot = a;
            below = below;
            k = t.stream;
            stream = s;
            at = at;
            unheld = and_from (not (is_open held t.stream s)) (unmeasured t.stream s) (not_from_false (is_open held t.stream s) closed) parts.0;
            joins = joins_of s t.forward a b goes;
          } in
          let least = has.least b within (inr leap) in
          let greatest = has.greatest b within (inr leap) in
          (numbering.below n b lt within).1 (omega (arith, low, least), omega (arith, high, greatest))
    ]

-- the ends of a held stream aren't joined by other held ones
pub not_below : (g : ProcessGraph) (held : List Bool) (j : ℕ) (s : Stream) → IsForest g.streams held → slice_get g.streams j ≡ Some s → held_unmeasured held j s ≡ true
    → Reaches (ends_of (except j (held_unmeasured held)) g.streams) s.from s.to → ⊥
not_below g held j s forest at branch r =
    acyclic_law g.streams held forest j s at (and_parts (is_open held j s) (unmeasured j s) branch).0
    (reach_more (except j (held_unmeasured held)) (except j (is_open held)) g.streams s.from s.to (branches_open held j g.streams) r)

-- what a node below reaches over other unmeasured streams is below
pub below_reach : (g : ProcessGraph) (held : List Bool) (points : NodePoints) (n j a b : ℕ) → IsProcessGraph g → IsNumbering g held points → n < g.nodes
    → points.up n ≡ Some j → HasPoints g held points n → points.number n ≤ points.low n → points.high n ≤ points.last n
    → Reaches (ends_of (unmeasured_but j) g.streams) a b → IsBelow g held points n a → IsBelow g held points n b
below_reach g held points n j a b graph numbering lt up has low high (steps, w) below =
    walk_keeps (ends_of (unmeasured_but j) g.streams) (IsBelow g held points n) a b steps (below_closed g held points n j graph numbering lt up has low high) w below

itself_below : (g : ProcessGraph) (held : List Bool) (points : NodePoints) (n : ℕ) → IsBelow g held points n n
itself_below g held points n = ([], refl)

pub points_apart : (g : ProcessGraph) (held : List Bool) (points : NodePoints) (n j : ℕ) → IsProcessGraph g → IsForest g.streams held → IsNumbering g held points → n < g.nodes
    → points.up n ≡ Some j → HasPoints g held points n → points.number n ≤ points.low n → points.high n ≤ points.last n → IsApart g j
points_apart g held points n j graph forest numbering lt up has low high s at r =
    let is = numbering.up n j lt up in
    let same : is.stream ≡ s = some_same (sym is.at ∙ at) in
    let branch : held_unmeasured held j s ≡ true = subst (λ (u : Stream). held_unmeasured held j u ≡ true) same is.branch in
    let reach = below_reach g held points n j in
    let ends = ends_of (except j (held_unmeasured held)) g.streams in
    elim is.touch [
      | inl from ↦
          let here : s.from ≡ n = ap (λ (u : Stream). u.from) (sym same) ∙ from in
          let end : IsBelow g held points n s.to =
          reach s.from s.to graph numbering lt up has low high r (subst (IsBelow g held points n) (sym here) (itself_below g held points n)) in
          not_below g held j s forest at branch (subst (λ (m : ℕ). Reaches ends m s.to) (sym here) (below_but g held points n j s.to up end))
      | inr to ↦
          let here : s.to ≡ n = ap (λ (u : Stream). u.to) (sym same) ∙ to in
          let end : IsBelow g held points n s.from =
          reach s.to s.from graph numbering lt up has low high (reach_back (unmeasured_but j) g.streams s.from s.to r) (subst (IsBelow g held points n) (sym here) (itself_below g held points n)) in
          not_below g held j s forest at branch
          (reach_back (except j (held_unmeasured held)) g.streams s.to s.from (subst (λ (m : ℕ). Reaches ends m s.from) (sym here) (below_but g held points n j s.from up end)))
    ]

-- ---- a point that isn't below
all_but : (ss : List Stream) (j : ℕ) (may : ℕ → Stream → Bool) (k : ℕ) (t : Stream) → slice_get ss k ≡ Some t → k ≢ j → may k t ≡ true → except j may k t ≡ true
all_but ss j may k t at ne ok = and_from (may k t) (not (k == j)) ok (not_from_false (k == j) (ne_eqb k j ne))

-- what lies at the other side of the stream: a walk over held unmeasured streams from a node that isn't below to one below takes it
pub past : (g : ProcessGraph) (held : List Bool) (points : NodePoints) (n j a m : ℕ) (s : Stream) → points.up n ≡ Some j → slice_get g.streams j ≡ Some s
    → IsBelow g held points n a → (IsBelow g held points n m → ⊥) → Reaches (ends_of (held_unmeasured held) g.streams) m a
    → ((s.from ≡ n) → Reaches (ends_of (except j (held_unmeasured held)) g.streams) m s.to)
    × ((s.to ≡ n) → Reaches (ends_of (except j (held_unmeasured held)) g.streams) m s.from)
past g held points n j a m s up at below out (steps, w) =
    let may = except j (held_unmeasured held) in
    let ends = ends_of may g.streams in
    let cases : Cases ends s m a = more_cases g.streams may (held_unmeasured held) j s m a steps at (all_but g.streams j (held_unmeasured held)) w in
    let from_n : Reaches ends n a = below_but g held points n j a up below in
    let never : Reaches ends m n → ⊥ = λ r. out (but_below g held points n j m up (reach_back may g.streams m n r)) in
    elim cases [
      | inl r ↦ absurd (never (reach_both ends m a n r (reach_back may g.streams n a from_n)))
      | inr more ↦ elim more [
        | inl (p, q) ↦ (λ here. absurd (never (subst (Reaches ends m) here p)), λ here. p)
        | inr (p, q) ↦ (λ here. p, λ here. absurd (never (subst (Reaches ends m) here p)))
      ]
    ]

pub leap_joined : (g : ProcessGraph) (held : List Bool) (points : NodePoints) (n j m : ℕ) → IsForest g.streams held → IsNumbering g held points → n < g.nodes
    → points.up n ≡ Some j → IsLeap g held points n m → (IsBelow g held points n m → ⊥) → IsJoined g j
leap_joined g held points n j m forest numbering lt up leap out s at =
    let ss = g.streams in
    let is = numbering.up n j lt up in
    let same : is.stream ≡ s = some_same (sym is.at ∙ at) in
    let branch : held_unmeasured held j s ≡ true = subst (λ (u : Stream). held_unmeasured held j u ≡ true) same is.branch in
    let marked : get_or held j false ≡ true = (and_parts (is_open held j s) (unmeasured j s) branch).0 in
    let may = unmeasured_but j in
    let ends = ends_of may ss in
    let foot = leap.foot in
    let over : Reaches ends foot m = joins_reach may ss leap.k leap.stream foot m leap.at (leap_but held leap.k j leap.stream marked leap.unheld) leap.joins in
    let bare : Reaches (ends_of unmeasured ss) m foot =
    reach_back unmeasured ss foot m (reach_more may unmeasured ss foot m (but_bare j ss) over) in
    let sides = past g held points n j foot m s up at leap.below out ((spans_law ss held forest).bare m foot bare) in
    let down : Reaches ends n foot = reach_more (except j (held_unmeasured held)) may ss n foot (branches_but held j ss) (below_but g held points n j foot up leap.below) in
    let there : Reaches ends n m = reach_both ends n foot m down over in
    elim is.touch [
      | inl from ↦
          let here : s.from ≡ n = ap (λ (u : Stream). u.from) (sym same) ∙ from in
          let on : Reaches ends m s.to = reach_more (except j (held_unmeasured held)) may ss m s.to (branches_but held j ss) (sides.0 here) in
          subst (λ (a : ℕ). Reaches ends a s.to) (sym here) (reach_both ends n m s.to there on)
      | inr to ↦
          let here : s.to ≡ n = ap (λ (u : Stream). u.to) (sym same) ∙ to in
          let on : Reaches ends m s.from = reach_more (except j (held_unmeasured held)) may ss m s.from (branches_but held j ss) (sides.1 here) in
          reach_back may ss s.to s.from (subst (λ (a : ℕ). Reaches ends a s.from) (sym here) (reach_both ends n m s.from there on))
    ]

-- a number that counts and isn't the number of a node below
pub counted_joined : (g : ProcessGraph) (held : List Bool) (points : NodePoints) (n j number : ℕ) → IsForest g.streams held → IsNumbering g held points → n < g.nodes
    → points.up n ≡ Some j → IsCounted g held points n number → (IsNumberBelow g held points n number → ⊥) → IsJoined g j
counted_joined g held points n j number forest numbering lt up (m, there, counts, is) out = elim counts [
  | inl below ↦ absurd (out (record { node = m; there = there; below = below; is = is }))
  | inr leap ↦ leap_joined g held points n j m forest numbering lt up leap (λ below. out (record { node = m; there = there; below = below; is = is }))
]

pub points_law : PointsLaw
points_law g held points n j graph forest numbering lt up has = record {
  apart = λ low high.
      let from = (numbering.below n low.node lt low.there).0 low.below in
      let to = (numbering.below n high.node lt high.there).0 high.below in
      points_apart g held points n j graph forest numbering lt up has (omega (arith, from.0, low.is)) (omega (arith, to.1, high.is));
  by_low = counted_joined g held points n j (points.low n) forest numbering lt up has.low;
  by_high = counted_joined g held points n j (points.high n) forest numbering lt up has.high;
}
