-- Alike graphs have the same walks, boundaries, forest and cycles, and so the same classification.
use Rattle.std.specs.List.{AllByRecursion, list_any}
use Rattle.std.proofs.Common.{◌≡◌, ◌∙◌, ◌≢◌, ℕ, ◌<◌, ◌+◌, Bool, true, false, not, ◌||◌, ◌&&◌, ◌==◌, nat_lt, if◌then◌else◌, List, [], ◌∷◌, length, Option, Some, None, option_map, slice_get, IsSome, is_some, IsTrue, refl, sym, ap, ap₂, subst}
use Rattle.std.proofs.lemmas.Option.{slice_get-map}
use Rattle.std.proofs.lemmas.List.{length-map}
use Rattle.pb_graph.specs.declared.records.Meas.{Meas}
use Rattle.pb_graph.specs.declared.records.Stream.{Stream}
use Rattle.pb_graph.specs.declared.records.Member.{Member}
use Rattle.pb_graph.specs.declared.records.Step.{Step}
use Rattle.pb_graph.specs.declared.records.Class.{Class}
use Rattle.pb_graph.specs.declared.records.Class.TheVariants.{Observable, Unobservable, Redundant, Nonredundant}
use Rattle.pb_graph.specs.declared.records.Witness.{Witness}
use Rattle.pb_graph.specs.declared.records.Witness.TheVariants.{Cut, Cycle}
use Rattle.pb_graph.specs.declared.records.Classified.{Classified}
use Rattle.pb_graph.specs.ProcessGraph.{ProcessGraph, IsProcessGraph, is_measured}
use Rattle.pb_graph.specs.Walk.{along, any_stream, ends_at, ends_of, is_in, unmeasured_but, Walks, Reaches, IsReach}
use Rattle.pb_graph.specs.Boundary.{member_at, member_by, members_from, sign_at, with_first, IsCut}
use Rattle.pb_graph.specs.Cycle.{begin_of, first_or, is_distinct, start_of, IsCycle}
use Rattle.pb_graph.specs.Path.{IsPath, is_open}
use Rattle.pb_graph.specs.Certificates.{CutsOff, GoesRound, Shows, IsCertified}
use Rattle.pb_graph.specs.Alike.{StreamShape, shape_of, shapes_of, AreAlike}
use Rattle.pb_graph.proofs.WalkLemmas.{some_same}
use Rattle.pb_graph.proofs.BalanceLaws.{certificate_shows}
use Rattle.pb_forest.specs.Forest.{IsForest, IsHeld, IsTied, is_before}
use Rattle.pb_classify.specs.Certificate.{IsCutOf, IsCycleOf, IsFirstCycle, IsUnmeasured, IsCanonical}
use Rattle.pb_classify.specs.Classification.{IsClassified, IsClassification}

-- streams of the same shape
abbrev AreOne : Stream → Stream → Type 0
AreOne s t = shape_of s ≡ shape_of t

one_from : (s t : Stream) → AreOne s t → s.from ≡ t.from
one_from s t same = ap (λ (x : StreamShape). x.from) same

one_to : (s t : Stream) → AreOne s t → s.to ≡ t.to
one_to s t same = ap (λ (x : StreamShape). x.to) same

one_measured : (s t : Stream) → AreOne s t → is_measured s ≡ is_measured t
one_measured s t same = ap (λ (x : StreamShape). x.measured) same

-- a test of streams that depends only on their shape
abbrev AsksShape : (ℕ → Stream → Bool) → Type 0
AsksShape may = (k : ℕ) (s t : Stream) → AreOne s t → may k s ≡ may k t

any_asks : AsksShape any_stream
any_asks k s t same = refl

open_asks : (marks : List Bool) → AsksShape (is_open marks)
open_asks marks k s t same = refl

but_asks : (j : ℕ) → AsksShape (unmeasured_but j)
but_asks j k s t same = ap (λ (b : Bool). not b && not (k == j)) (one_measured s t same)

before_asks : (measured : Bool) (j : ℕ) → AsksShape (is_before measured j)
before_asks true j k s t same = ap (λ (b : Bool). not b || nat_lt k j) (one_measured s t same)
before_asks false j k s t same = ap (λ (b : Bool). not b && nat_lt k j) (one_measured s t same)

-- an option of a stream, by its shape
found_same : (o : Option Stream) (x : StreamShape) → option_map shape_of o ≡ Some x → (t : Stream) × (o ≡ Some t) × (shape_of t ≡ x)
found_same None x is = cc is
found_same (Some t) x is = (t, refl, some_same is)

-- the stream at a place, and the stream at the same place of the other list
other_at : (ss ts : List Stream) (k : ℕ) (s : Stream) → shapes_of ss ≡ shapes_of ts → slice_get ss k ≡ Some s
    → (t : Stream) × (slice_get ts k ≡ Some t) × AreOne s t
other_at ss ts k s same at =
    let is : option_map shape_of (slice_get ts k) ≡ Some (shape_of s) =
    sym (slice_get-map shape_of ts k) ∙ ap (λ (xs : List StreamShape). slice_get xs k) (sym same) ∙ slice_get-map shape_of ss k ∙ ap (option_map shape_of) at in
    let (t, at_t, shape) = found_same (slice_get ts k) (shape_of s) is in
    (t, at_t, sym shape)

along_same : (forward : Bool) (s t : Stream) → AreOne s t → along forward s ≡ along forward t
along_same true s t same = ap₂ (λ (a b : ℕ). (a, b)) (one_from s t same) (one_to s t same)
along_same false s t same = ap₂ (λ (a b : ℕ). (a, b)) (one_to s t same) (one_from s t same)

ends_same_at : (may : ℕ → Stream → Bool) (k : ℕ) (forward : Bool) (o p : Option Stream) → AsksShape may
    → option_map shape_of o ≡ option_map shape_of p → ends_at may k forward o ≡ ends_at may k forward p
ends_same_at may k forward None None asks same = refl
ends_same_at may k forward None (Some t) asks same = cc same
ends_same_at may k forward (Some s) None asks same = cc same
ends_same_at may k forward (Some s) (Some t) asks same =
    let one : AreOne s t = some_same same in
    ap₂ (λ (b : Bool) (e : ℕ × ℕ). if b then Some e else None) (asks k s t one) (along_same forward s t one)

-- a step has the same ends
ends_same : (may : ℕ → Stream → Bool) (ss ts : List Stream) (step : Step) → AsksShape may → shapes_of ss ≡ shapes_of ts
    → ends_of may ss step ≡ ends_of may ts step
ends_same may ss ts step asks same =
    ends_same_at may step.stream step.forward (slice_get ss step.stream) (slice_get ts step.stream) asks
    (sym (slice_get-map shape_of ss step.stream) ∙ ap (λ (xs : List StreamShape). slice_get xs step.stream) same ∙ slice_get-map shape_of ts step.stream)

walks_same : (may : ℕ → Stream → Bool) (ss ts : List Stream) (a b : ℕ) (steps : List Step) → AsksShape may → shapes_of ss ≡ shapes_of ts
    → Walks (ends_of may ss) a steps b → Walks (ends_of may ts) a steps b
walks_same may ss ts a b [] asks same walk = walk
walks_same may ss ts a b (step ∷ steps) asks same (c, first, walk) =
    (c, sym (ends_same may ss ts step asks same) ∙ first, walks_same may ss ts c b steps asks same walk)

reaches_same : (may : ℕ → Stream → Bool) (ss ts : List Stream) (a b : ℕ) → AsksShape may → shapes_of ss ≡ shapes_of ts
    → Reaches (ends_of may ss) a b → Reaches (ends_of may ts) a b
reaches_same may ss ts a b asks same (steps, walk) = (steps, walks_same may ss ts a b steps asks same walk)

reach_same : (may : ℕ → Stream → Bool) (ss ts : List Stream) (nodes a : ℕ) (side : List Bool) → AsksShape may → shapes_of ss ≡ shapes_of ts
    → IsReach (ends_of may ss) nodes a side → IsReach (ends_of may ts) nodes a side
reach_same may ss ts nodes a side asks same reach = record {
  each = reach.each;
  reached = λ n is. reaches_same may ss ts a n asks same (reach.reached n is);
  whole = λ n r. reach.whole n (reaches_same may ts ss a n asks (sym same) r);
}

-- the boundary of a side
member_same : (side : List Bool) (k : ℕ) (s t : Stream) → AreOne s t → member_at side k s ≡ member_at side k t
member_same side k s t same =
    ap₂ (λ (a b : ℕ). member_by k (sign_at (is_in side a) (is_in side b))) (one_from s t same) (one_to s t same)

members_same : (side : List Bool) (k : ℕ) (ss ts : List Stream) → shapes_of ss ≡ shapes_of ts → members_from side k ss ≡ members_from side k ts
members_same side k [] [] same = refl
members_same side k [] (t ∷ ts) same = cc same
members_same side k (s ∷ ss) [] same = cc same
members_same side k (s ∷ ss) (t ∷ ts) same =
    let one : AreOne s t = cc same in
    let rest : shapes_of ss ≡ shapes_of ts = cc same in
    ap₂ with_first (member_same side k s t one) (members_same side (k + 1) ss ts rest)

-- where a step begins
begin_same : (nodes : ℕ) (ss ts : List Stream) (step : Step) → shapes_of ss ≡ shapes_of ts → begin_of nodes ss step ≡ begin_of nodes ts step
begin_same nodes ss ts step same = ap (first_or nodes) (ends_same any_stream ss ts step any_asks same)

any_same : (p q : Step → Bool) (steps : List Step) → ((step : Step) → p step ≡ q step) → list_any p steps ≡ list_any q steps
any_same p q [] same = refl
any_same p q (step ∷ steps) same = ap₂ (λ (a b : Bool). a || b) (same step) (any_same p q steps same)

distinct_same : (key other : Step → ℕ) (steps : List Step) → ((step : Step) → key step ≡ other step) → is_distinct key steps ≡ is_distinct other steps
distinct_same key other [] same = refl
distinct_same key other (step ∷ steps) same =
    ap₂ (λ (a b : Bool). not a && b)
    (any_same (λ y. key y == key step) (λ y. other y == other step) steps (λ y. ap₂ (λ (a b : ℕ). a == b) (same y) (same step)))
    (distinct_same key other steps same)

path_same : (may : ℕ → Stream → Bool) (ss ts : List Stream) (nodes a b : ℕ) (steps : List Step) → AsksShape may → shapes_of ss ≡ shapes_of ts
    → IsPath (ends_of may ss) nodes ss a steps b → IsPath (ends_of may ts) nodes ts a steps b
path_same may ss ts nodes a b steps asks same path = record {
  walk = walks_same may ss ts a b steps asks same path.walk;
  once = subst IsTrue (distinct_same (begin_of nodes ss) (begin_of nodes ts) steps (λ step. begin_same nodes ss ts step same)) path.once;
  last = sym (any_same (λ step. begin_of nodes ss step == b) (λ step. begin_of nodes ts step == b) steps
      (λ step. ap (λ (n : ℕ). n == b) (begin_same nodes ss ts step same))) ∙ path.last;
}

-- graphs of these streams
abbrev of : ℕ → List Stream → ProcessGraph
of nodes streams = record { nodes = nodes; streams = streams }

start_same : (nodes : ℕ) (ss ts : List Stream) (steps : List Step) → shapes_of ss ≡ shapes_of ts → start_of (of nodes ss) steps ≡ start_of (of nodes ts) steps
start_same nodes ss ts [] same = refl
start_same nodes ss ts (step ∷ steps) same = begin_same nodes ss ts step same

cycle_same : (nodes : ℕ) (ss ts : List Stream) (steps : List Step) → shapes_of ss ≡ shapes_of ts → IsCycle (of nodes ss) steps → IsCycle (of nodes ts) steps
cycle_same nodes ss ts steps same cycle = record {
  some = cycle.some;
  back = subst (λ (n : ℕ). Walks (ends_of any_stream ts) n steps n) (start_same nodes ss ts steps same)
      (walks_same any_stream ss ts (start_of (of nodes ss) steps) (start_of (of nodes ss) steps) steps any_asks same cycle.back);
  each_stream = cycle.each_stream;
  each_node = subst IsTrue (distinct_same (begin_of nodes ss) (begin_of nodes ts) steps (λ step. begin_same nodes ss ts step same)) cycle.each_node;
}

cut_same : (nodes : ℕ) (ss ts : List Stream) (side : List Bool) (members : List Member) → shapes_of ss ≡ shapes_of ts → IsCut (of nodes ss) side members
    → IsCut (of nodes ts) side members
cut_same nodes ss ts side members same cut = record { each = cut.each; boundary = cut.boundary ∙ members_same side 0 ss ts same }

-- both are measured, or neither is
meas_none : (o p : Option Meas) → is_some o ≡ is_some p → o ≡ None → p ≡ None
meas_none o None same none = refl
meas_none None (Some m) same none = cc same
meas_none (Some l) (Some m) same none = cc none

meas_some : (o p : Option Meas) → is_some o ≡ is_some p → IsSome o → IsSome p
meas_some None p same some = cc some
meas_some (Some l) None same some = cc same
meas_some (Some l) (Some m) same some = refl

none_same : (s t : Stream) → AreOne s t → s.meas ≡ None → t.meas ≡ None
none_same s t same none = meas_none s.meas t.meas (one_measured s t same) none

some_meas_same : (s t : Stream) → AreOne s t → IsSome s.meas → IsSome t.meas
some_meas_same s t same some = meas_some s.meas t.meas (one_measured s t same) some

-- the other streams of a cut are measured
others_cut : (j : ℕ) (ss ts : List Stream) (members : List Member) → shapes_of ss ≡ shapes_of ts
    → AllByRecursion (λ (m : Member). m.stream ≢ j → (s : Stream) → slice_get ss m.stream ≡ Some s → IsSome s.meas) members
    → AllByRecursion (λ (m : Member). m.stream ≢ j → (s : Stream) → slice_get ts m.stream ≡ Some s → IsSome s.meas) members
others_cut j ss ts [] same each = tt
others_cut j ss ts (m ∷ members) same (first, rest) = (
  (λ apart t at_t.
      let (s, at_s, one) = other_at ts ss m.stream t (sym same) at_t in
      some_meas_same s t (sym one) (first apart s at_s)),
  others_cut j ss ts members same rest,
)

-- the other streams of a cycle are unmeasured
others_cycle : (j : ℕ) (ss ts : List Stream) (steps : List Step) → shapes_of ss ≡ shapes_of ts
    → AllByRecursion (λ (step : Step). step.stream ≢ j → (s : Stream) → slice_get ss step.stream ≡ Some s → s.meas ≡ None) steps
    → AllByRecursion (λ (step : Step). step.stream ≢ j → (s : Stream) → slice_get ts step.stream ≡ Some s → s.meas ≡ None) steps
others_cycle j ss ts [] same each = tt
others_cycle j ss ts (step ∷ steps) same (first, rest) = (
  (λ apart t at_t.
      let (s, at_s, one) = other_at ts ss step.stream t (sym same) at_t in
      none_same s t (sym one) (first apart s at_s)),
  others_cycle j ss ts steps same rest,
)

cuts_same : (nodes : ℕ) (ss ts : List Stream) (j : ℕ) (side : List Bool) (members : List Member) → shapes_of ss ≡ shapes_of ts
    → CutsOff (of nodes ss) j side members → CutsOff (of nodes ts) j side members
cuts_same nodes ss ts j side members same cuts = record {
  cut = cut_same nodes ss ts side members same cuts.cut;
  has = cuts.has;
  others = others_cut j ss ts members same cuts.others;
}

rounds_same : (nodes : ℕ) (ss ts : List Stream) (j : ℕ) (steps : List Step) → shapes_of ss ≡ shapes_of ts
    → GoesRound (of nodes ss) j steps → GoesRound (of nodes ts) j steps
rounds_same nodes ss ts j steps same round = record {
  cycle = cycle_same nodes ss ts steps same round.cycle;
  has = round.has;
  others = others_cycle j ss ts steps same round.others;
}

shows_same : (nodes : ℕ) (ss ts : List Stream) (j : ℕ) (s t : Stream) (class : Class) (w : Witness) → shapes_of ss ≡ shapes_of ts → AreOne s t
    → Shows (of nodes ss) j s class w → Shows (of nodes ts) j t class w
shows_same nodes ss ts j s t Observable (Cut side members) same one (kind, cuts) = (none_same s t one kind, cuts_same nodes ss ts j side members same cuts)
shows_same nodes ss ts j s t Redundant (Cut side members) same one (kind, cuts) = (some_meas_same s t one kind, cuts_same nodes ss ts j side members same cuts)
shows_same nodes ss ts j s t Unobservable (Cycle steps) same one (kind, round) = (none_same s t one kind, rounds_same nodes ss ts j steps same round)
shows_same nodes ss ts j s t Nonredundant (Cycle steps) same one (kind, round) = (some_meas_same s t one kind, rounds_same nodes ss ts j steps same round)
shows_same nodes ss ts j s t Observable (Cycle steps) same one shows = shows
shows_same nodes ss ts j s t Redundant (Cycle steps) same one shows = shows
shows_same nodes ss ts j s t Unobservable (Cut side members) same one shows = shows
shows_same nodes ss ts j s t Nonredundant (Cut side members) same one shows = shows

certified_same : (nodes : ℕ) (ss ts : List Stream) (j : ℕ) (c : Classified) → shapes_of ss ≡ shapes_of ts
    → IsCertified (of nodes ss) j c → IsCertified (of nodes ts) j c
certified_same nodes ss ts j c same (s, at, shows) =
    let (t, at_t, one) = other_at ss ts j s same at in
    (t, at_t, shows_same nodes ss ts j s t c.class c.witness same one shows)

-- the forest
joined_same : (ss ts : List Stream) (j : ℕ) (s t : Stream) → shapes_of ss ≡ shapes_of ts → AreOne s t
    → Reaches (ends_of (is_before (is_measured t) j) ts) t.from t.to → Reaches (ends_of (is_before (is_measured s) j) ss) s.from s.to
joined_same ss ts j s t same one r =
    let here : Reaches (ends_of (is_before (is_measured t) j) ss) t.from t.to =
    reaches_same (is_before (is_measured t) j) ts ss t.from t.to (before_asks (is_measured t) j) (sym same) r in
    let kind : Reaches (ends_of (is_before (is_measured s) j) ss) t.from t.to =
    subst (λ (b : Bool). Reaches (ends_of (is_before b j) ss) t.from t.to) (sym (one_measured s t one)) here in
    subst (λ (n : ℕ). Reaches (ends_of (is_before (is_measured s) j) ss) s.from n) (sym (one_to s t one))
    (subst (λ (n : ℕ). Reaches (ends_of (is_before (is_measured s) j) ss) n t.to) (sym (one_from s t one)) kind)

held_same : (ss ts : List Stream) (j : ℕ) → shapes_of ss ≡ shapes_of ts → IsHeld ss j → IsHeld ts j
held_same ss ts j same held t at_t r =
    let (s, at_s, one) = other_at ts ss j t (sym same) at_t in
    held s at_s (joined_same ss ts j s t same (sym one) r)

tied_same : (ss ts : List Stream) (j : ℕ) → shapes_of ss ≡ shapes_of ts → IsTied ss j → IsTied ts j
tied_same ss ts j same tied t at_t =
    let (s, at_s, one) = other_at ts ss j t (sym same) at_t in
    joined_same ts ss j t s (sym same) one (tied s at_s)

length_same : (ss ts : List Stream) → shapes_of ss ≡ shapes_of ts → length ss ≡ length ts
length_same ss ts same = sym (length-map ss shape_of) ∙ ap length same ∙ length-map ts shape_of

forest_same : (ss ts : List Stream) (held : List Bool) → shapes_of ss ≡ shapes_of ts → IsForest ss held → IsForest ts held
forest_same ss ts held same forest = record {
  each = forest.each ∙ length_same ss ts same;
  decided = λ j lt.
      let decided = forest.decided j (subst (λ (n : ℕ). j < n) (sym (length_same ss ts same)) lt) in
      record { apart = λ is. held_same ss ts j same (decided.apart is); tied = λ is. tied_same ss ts j same (decided.tied is) };
}

-- the canonical certificates
cut_of_same : (nodes : ℕ) (ss ts : List Stream) (j : ℕ) (s t : Stream) (side : List Bool) (members : List Member) → shapes_of ss ≡ shapes_of ts → AreOne s t
    → IsCutOf (of nodes ss) j s side members → IsCutOf (of nodes ts) j t side members
cut_of_same nodes ss ts j s t side members same one is = record {
  reach = subst (λ (n : ℕ). IsReach (ends_of (unmeasured_but j) ts) nodes n side) (one_from s t one)
      (reach_same (unmeasured_but j) ss ts nodes s.from side (but_asks j) same is.reach);
  cut = cut_same nodes ss ts side members same is.cut;
}

cycle_of_same : (nodes : ℕ) (ss ts : List Stream) (held : List Bool) (j : ℕ) (steps : List Step) → shapes_of ss ≡ shapes_of ts
    → IsCycleOf (of nodes ss) held j steps → IsCycleOf (of nodes ts) held j steps
cycle_of_same nodes ss ts held j steps same is =
    let (t, at_t, one) = other_at ss ts j is.s same is.at in
    let path : IsPath (ends_of (is_open held) ts) nodes ts is.s.to is.back is.s.from =
    path_same (is_open held) ss ts nodes is.s.to is.s.from is.back (open_asks held) same is.path in
    record {
      s = t;
      at = at_t;
      outside = is.outside;
      back = is.back;
      path = subst (λ (n : ℕ). IsPath (ends_of (is_open held) ts) nodes ts n is.back t.from) (one_to is.s t one)
          (subst (λ (n : ℕ). IsPath (ends_of (is_open held) ts) nodes ts is.s.to is.back n) (one_from is.s t one) path);
      round = is.round;
    }

unmeasured_same : (nodes : ℕ) (ss ts : List Stream) (k : ℕ) → shapes_of ss ≡ shapes_of ts → IsUnmeasured (of nodes ss) k → IsUnmeasured (of nodes ts) k
unmeasured_same nodes ss ts k same is t at_t =
    let (s, at_s, one) = other_at ts ss k t (sym same) at_t in
    none_same s t (sym one) (is s at_s)

first_same : (nodes : ℕ) (ss ts : List Stream) (held : List Bool) (j : ℕ) (steps : List Step) → shapes_of ss ≡ shapes_of ts
    → IsFirstCycle (of nodes ss) held j steps → IsFirstCycle (of nodes ts) held j steps
first_same nodes ss ts held j steps same is = record {
  e = is.e;
  unmeasured = unmeasured_same nodes ss ts is.e same is.unmeasured;
  cycle = cycle_of_same nodes ss ts held is.e steps same is.cycle;
  has = is.has;
  first = λ k other less none cycle.
      is.first k other less (unmeasured_same nodes ts ss k (sym same) none) (cycle_of_same nodes ts ss held k other (sym same) cycle);
}

canonical_same : (nodes : ℕ) (ss ts : List Stream) (held : List Bool) (j : ℕ) (s t : Stream) (class : Class) (w : Witness) → shapes_of ss ≡ shapes_of ts
    → AreOne s t → IsCanonical (of nodes ss) held j s class w → IsCanonical (of nodes ts) held j t class w
canonical_same nodes ss ts held j s t Observable (Cut side members) same one is = cut_of_same nodes ss ts j s t side members same one is
canonical_same nodes ss ts held j s t Redundant (Cut side members) same one is = cut_of_same nodes ss ts j s t side members same one is
canonical_same nodes ss ts held j s t Unobservable (Cycle steps) same one is = first_same nodes ss ts held j steps same is
canonical_same nodes ss ts held j s t Nonredundant (Cycle steps) same one is = cycle_of_same nodes ss ts held j steps same is
canonical_same nodes ss ts held j s t Observable (Cycle steps) same one is = is
canonical_same nodes ss ts held j s t Redundant (Cycle steps) same one is = is
canonical_same nodes ss ts held j s t Unobservable (Cut side members) same one is = is
canonical_same nodes ss ts held j s t Nonredundant (Cut side members) same one is = is

item_same : (nodes : ℕ) (ss ts : List Stream) (j : ℕ) (c : Classified) → IsProcessGraph (of nodes ts) → shapes_of ss ≡ shapes_of ts
    → IsClassified (of nodes ss) j c → IsClassified (of nodes ts) j c
item_same nodes ss ts j c limits same is =
    let certified : IsCertified (of nodes ts) j c = certified_same nodes ss ts j c same is.certified in
    let old = is.canonical in
    let (t, at_t, one) = other_at ss ts j old.s same old.at in
    record {
      class = certificate_shows (of nodes ts) j c limits certified;
      certified = certified;
      canonical = record {
        held = old.held;
        forest = forest_same ss ts old.held same old.forest;
        s = t;
        at = at_t;
        canonical = canonical_same nodes ss ts old.held j old.s t c.class c.witness same one old.canonical;
      };
    }

of_same : (nodes : ℕ) (ss ts : List Stream) (classes : List Classified) → IsProcessGraph (of nodes ts) → shapes_of ss ≡ shapes_of ts
    → IsClassification (of nodes ss) classes → IsClassification (of nodes ts) classes
of_same nodes ss ts classes limits same is = record {
  each = is.each ∙ length_same ss ts same;
  right = λ j c at. item_same nodes ss ts j c limits same (is.right j c at);
}

-- alike graphs have the same classification
pub alike_classes : (one other : ProcessGraph) (classes : List Classified) → IsProcessGraph other → AreAlike one other
    → IsClassification one classes → IsClassification other classes
alike_classes one other classes limits alike is =
    of_same other.nodes one.streams other.streams classes limits alike.streams
    (subst (λ (n : ℕ). IsClassification (of n one.streams) classes) alike.nodes is)
