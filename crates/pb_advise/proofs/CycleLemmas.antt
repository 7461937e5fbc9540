-- The cycles of an advice prove that nothing is cheaper: the rest of the cycle of a stream leads from one of its ends to the other.
use Rattle.std.proofs.Common.{◌≡◌, ◌≢◌, ◌∙◌, ℕ, zero, suc, ◌+◌, ℤ, ◌≤ℤ◌, Bool, true, false, not, ◌||◌, ◌==◌, List, [], ◌∷◌, None, Some, slice_get, get_or, ap, sym, refl, subst, inl, inr, arith, is_some}
use Rattle.std.specs.List.{AllByRecursion, list_any}
use Rattle.std.proofs.lemmas.Bool.{cases_Bool, and_parts, and_from, or_left, or_right, or_cases, not-true, not_from_false, eq-eqb, eqb-true}
use Rattle.pb_fixed.specs.Sums.{item}
use Rattle.pb_graph.specs.declared.records.Stream.{Stream}
use Rattle.pb_graph.specs.declared.records.Step.{Step}
use Rattle.pb_graph.specs.ProcessGraph.{ProcessGraph, is_measured}
use Rattle.pb_graph.specs.Walk.{along, ends_of, any_stream, unmeasured, Walks, Reaches}
use Rattle.pb_graph.specs.Cycle.{is_distinct, start_of}
use Rattle.pb_graph.proofs.WalkLemmas.{some_same, ends_is, stream_of, reach_none, reach_one, reach_both, reach_back}
use Rattle.pb_advise.specs.declared.advice.Meter.{Meter}
use Rattle.pb_advise.specs.Choice.{stays_unmeasured, cost_of}
use Rattle.pb_advise.specs.Advice.{IsShown, metered_streams}
use Rattle.pb_advise.specs.Order.{marked_from}
use Rattle.pb_advise.specs.Laws.{CyclesLaw}
use Rattle.pb_advise.proofs.LeastLemmas.{le_is, may_replace, AreReplaceable, least_cost}

pub both_all : {A : Type 0} (P Q R : A → Type 0) (xs : List A) → ((x : A) → P x → Q x → R x) → AllByRecursion P xs → AllByRecursion Q xs → AllByRecursion R xs
both_all P Q R [] f ps qs = tt
both_all P Q R (x ∷ xs) f ps qs = (f x ps.0 qs.0, both_all P Q R xs f ps.1 qs.1)

-- ---- the rest of a cycle
-- a step along a stream other than j is along one that may be taken
abbrev MayBut : List Stream → (ℕ → Stream → Bool) → ℕ → Step → Type 0
MayBut ss may j t = t.stream ≢ j → (s : Stream) → slice_get ss t.stream ≡ Some s → may t.stream s ≡ true

abbrev has_stream : ℕ → List Step → Bool
has_stream j steps = list_any (λ (t : Step). t.stream == j) steps

or_parts : (x y : Bool) → (x || y) ≡ false → (x ≡ false) × (y ≡ false)
or_parts true y off = cc off
or_parts false y off = (refl, off)

eqb_ne : (a b : ℕ) → (a == b) ≡ false → a ≢ b
eqb_ne a b off same = cc (sym off ∙ eq-eqb a b same)

one_step : (ss : List Stream) (may : ℕ → Stream → Bool) (j a c : ℕ) (t : Step) → MayBut ss may j t → t.stream ≢ j
    → ends_of any_stream ss t ≡ Some (a, c) → Reaches (ends_of may ss) a c
one_step ss may j a c t pass ne e =
    let (s, at, ok, goes) = stream_of any_stream ss t (a, c) e in
    reach_one (ends_of may ss) a c t (ends_is may ss t.stream s t.forward at (pass ne s at) ∙ ap (λ (p : ℕ × ℕ). Some p) goes)

-- a walk without stream j
walk_but : (ss : List Stream) (may : ℕ → Stream → Bool) (j a b : ℕ) (steps : List Step) → AllByRecursion (MayBut ss may j) steps
    → has_stream j steps ≡ false → Walks (ends_of any_stream ss) a steps b → Reaches (ends_of may ss) a b
walk_but ss may j a b [] all off w = ([], w)
walk_but ss may j a b (t ∷ rest) all off (c, e, w) =
    let parts = or_parts (t.stream == j) (has_stream j rest) off in
    reach_both (ends_of may ss) a c b (one_step ss may j a c t all.0 (eqb_ne t.stream j parts.0) e) (walk_but ss may j c b rest all.1 parts.1 w)

-- a walk that takes stream j once: what leads to it, and what leads on from it
record GoesThrough (ss : List Stream) (may : ℕ → Stream → Bool) (j a b : ℕ) : Type 0 where
  s : Stream
  at : slice_get ss j ≡ Some s
  forward : Bool
  x : ℕ
  y : ℕ
  goes : along forward s ≡ (x, y)
  there : Reaches (ends_of may ss) a x
  on : Reaches (ends_of may ss) y b

goes_through : (ss : List Stream) (may : ℕ → Stream → Bool) (j a b : ℕ) (steps : List Step) → AllByRecursion (MayBut ss may j) steps
    → has_stream j steps ≡ true → is_distinct (λ (t : Step). t.stream) steps ≡ true → Walks (ends_of any_stream ss) a steps b → GoesThrough ss may j a b
goes_through ss may j a b [] all has once w = cc has
goes_through ss may j a b (t ∷ rest) all has once (c, e, w) =
    let alone = and_parts (not (list_any (λ (y : Step). y.stream == t.stream) rest)) (is_distinct (λ (y : Step). y.stream) rest) once in
    elim (cases_Bool (t.stream == j)) [
      | inl here ↦
          let same : t.stream ≡ j = eqb-true t.stream j here in
          let (s, at, ok, goes) = stream_of any_stream ss t (a, c) e in
          let none : has_stream j rest ≡ false = ap (λ (n : ℕ). list_any (λ (y : Step). y.stream == n) rest) (sym same) ∙ not-true (list_any (λ (y : Step). y.stream == t.stream) rest) alone.0 in
          record {
            s = s;
            at = ap (λ (n : ℕ). slice_get ss n) (sym same) ∙ at;
            forward = t.forward;
            x = a;
            y = c;
            goes = goes;
            there = reach_none (ends_of may ss) a;
            on = walk_but ss may j c b rest all.1 none w;
          }
      | inr other ↦
          let more = goes_through ss may j c b rest all.1 (first_off (t.stream == j) (has_stream j rest) other has) alone.1 w in
          record {
            s = more.s;
            at = more.at;
            forward = more.forward;
            x = more.x;
            y = more.y;
            goes = more.goes;
            there = reach_both (ends_of may ss) a c more.x (one_step ss may j a c t all.0 (eqb_ne t.stream j other) e) more.there;
            on = more.on;
          }
    ]
  where
    first_off : (x y : Bool) → x ≡ false → (x || y) ≡ true → y ≡ true
    first_off true y off on = cc off
    first_off false y off on = on

-- the rest of a closed walk joins the ends of the stream
joins_ends : (ss : List Stream) (may : ℕ → Stream → Bool) (j : ℕ) (s : Stream) (forward : Bool) (x y : ℕ) → along forward s ≡ (x, y)
    → Reaches (ends_of may ss) y x → Reaches (ends_of may ss) s.from s.to
joins_ends ss may j s true x y goes r =
    reach_back may ss s.to s.from (subst (λ (p : ℕ × ℕ). Reaches (ends_of may ss) p.1 p.0) (sym goes) r)
joins_ends ss may j s false x y goes r = subst (λ (p : ℕ × ℕ). Reaches (ends_of may ss) p.1 p.0) (sym goes) r

round_joins : (ss : List Stream) (may : ℕ → Stream → Bool) (j a : ℕ) (s : Stream) (steps : List Step) → AllByRecursion (MayBut ss may j) steps
    → has_stream j steps ≡ true → is_distinct (λ (t : Step). t.stream) steps ≡ true → Walks (ends_of any_stream ss) a steps a
    → slice_get ss j ≡ Some s → Reaches (ends_of may ss) s.from s.to
round_joins ss may j a s steps all has once w at =
    let through = goes_through ss may j a a steps all has once w in
    let is : through.s ≡ s = some_same (sym through.at ∙ at) in
    let rest = reach_both (ends_of may ss) through.y a through.x through.on through.there in
    subst (λ (v : Stream). Reaches (ends_of may ss) v.from v.to) is (joins_ends ss may j through.s through.forward through.x through.y through.goes rest)

-- ---- the cycle of a meter
shown_joins : (g : ProcessGraph) (costs : List ℤ) (chosen : List Bool) (meter : Meter) (s : Stream) → IsShown g costs chosen meter
    → slice_get g.streams meter.stream ≡ Some s → Reaches (ends_of (may_replace costs chosen meter.stream) g.streams) s.from s.to
shown_joins g costs chosen meter s shown at =
    let ss = g.streams in
    let j = meter.stream in
    let may = may_replace costs chosen j in
    let round = shown.round in
    let Bare : Step → Type 0 = λ t. t.stream ≢ j → (u : Stream) → slice_get ss t.stream ≡ Some u → u.meas ≡ None in
    let Stays : Step → Type 0 = λ t. t.stream ≢ j → get_or chosen t.stream false ≡ false in
    let Dear : Step → Type 0 = λ t. t.stream ≢ j → meter.cost ≤ℤ item costs t.stream in
    let Both : Step → Type 0 = λ t. t.stream ≢ j → (u : Stream) → slice_get ss t.stream ≡ Some u → stays_unmeasured chosen t.stream u ≡ true in
    let stay : AllByRecursion Both meter.steps = both_all Bare Stays Both meter.steps (λ t bare stays ne u there.
    and_from (unmeasured t.stream u) (not (get_or chosen t.stream false)) (not_from_false (is_measured u) (ap is_some (bare ne u there))) (not_from_false (get_or chosen t.stream false) (stays ne))) round.others shown.stay in
    let all : AllByRecursion (MayBut ss may j) meter.steps = both_all Both Dear (MayBut ss may j) meter.steps (λ t stays dear ne u there.
    and_from (stays_unmeasured chosen t.stream u) _ (stays ne u there)
    (le_is (item costs j) (item costs t.stream) (subst (λ (z : ℤ). z ≤ℤ item costs t.stream) shown.cost (dear ne)))) stay shown.dear in
    round_joins ss may j (start_of g meter.steps) s meter.steps all round.has round.cycle.each_stream round.cycle.back at

-- ---- each chosen stream has its meter
marked_listed : (i k n : ℕ) (marks : List Bool) → n ≡ i + k → get_or marks k false ≡ true → list_any (λ (m : ℕ). m == n) (marked_from i marks) ≡ true
marked_listed i k n [] e on = cc on
marked_listed i zero n (true ∷ marks) e on = or_left (i == n) (list_any (λ (m : ℕ). m == n) (marked_from (i + 1) marks)) (eq-eqb i n (omega (arith, e)))
marked_listed i zero n (false ∷ marks) e on = cc on
marked_listed i (suc k) n (true ∷ marks) e on =
    or_right (i == n) (list_any (λ (m : ℕ). m == n) (marked_from (i + 1) marks)) (marked_listed (i + 1) k n marks (omega (arith, e)) on)
marked_listed i (suc k) n (false ∷ marks) e on = marked_listed (i + 1) k n marks (omega (arith, e)) on

listed_joins : (g : ProcessGraph) (costs : List ℤ) (chosen : List Bool) (j : ℕ) (s : Stream) (meters : List Meter) → AllByRecursion (IsShown g costs chosen) meters
    → list_any (λ (m : ℕ). m == j) (metered_streams meters) ≡ true → slice_get g.streams j ≡ Some s → Reaches (ends_of (may_replace costs chosen j) g.streams) s.from s.to
listed_joins g costs chosen j s [] shown listed at = cc listed
listed_joins g costs chosen j s (meter ∷ meters) shown listed at =
    elim (or_cases (meter.stream == j) (list_any (λ (m : ℕ). m == j) (metered_streams meters)) listed) [
      | inl here ↦
          let same : meter.stream ≡ j = eqb-true meter.stream j here in
          subst (λ (n : ℕ). slice_get g.streams n ≡ Some s → Reaches (ends_of (may_replace costs chosen n) g.streams) s.from s.to) same
          (shown_joins g costs chosen meter s shown.0) at
      | inr later ↦ listed_joins g costs chosen j s meters shown.1 later at
    ]

pub cycles_is : CyclesLaw
cycles_is g costs chosen other advice is are shows other_choice suffices =
    let replaceable : AreReplaceable g costs chosen = λ j s at on.
    let listed = marked_listed 0 j j chosen (omega arith) on in
    listed_joins g costs chosen j s advice.meter shows.shown (ap (λ (l : List ℕ). list_any (λ (m : ℕ). m == j) l) shows.named ∙ listed) at in
    subst (λ (z : ℤ). z ≤ℤ cost_of costs other) (sym shows.total) (least_cost g costs chosen other is are shows.choice replaceable other_choice suffices)
