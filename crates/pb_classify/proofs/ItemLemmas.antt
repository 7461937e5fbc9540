-- One stream with its class and its certificate.
use Rattle.std.proofs.Common.{◌≡◌, ◌∙◌, ℕ, zero, suc, ◌<◌, ◌≤◌, Bool, true, false, if◌then◌else◌, List, [], ◌∷◌, ◌++◌, length, Some, slice_get, refl, sym, ap, subst, inl, inr, arith}
use Rattle.std.proofs.lemmas.Bool.{cases_Bool, cases_lt}
use Rattle.std.proofs.lemmas.Option.{get_or_from_slice_get, slice_get_within}
use Rattle.pb_graph.specs.declared.records.Stream.{Stream}
use Rattle.pb_graph.specs.declared.records.Step.{Step}
use Rattle.pb_graph.specs.declared.records.Member.{Member}
use Rattle.pb_graph.specs.declared.records.Class.{Class}
use Rattle.pb_graph.specs.declared.records.Class.TheVariants.{Observable, Unobservable, Redundant, Nonredundant}
use Rattle.pb_graph.specs.declared.records.Witness.{Witness}
use Rattle.pb_graph.specs.declared.records.Witness.TheVariants.{Cut, Cycle}
use Rattle.pb_graph.specs.declared.records.Classified.{Classified}
use Rattle.pb_graph.specs.ProcessGraph.{ProcessGraph, IsStream, IsProcessGraph, is_measured}
use Rattle.pb_graph.specs.Walk.{ends_of, unmeasured_but, is_in, Reaches, IsReach}
use Rattle.pb_graph.specs.Boundary.{boundary_of}
use Rattle.pb_graph.specs.Certificates.{CutsOff, Shows, IsCertified}
use Rattle.pb_graph.proofs.WalkLemmas.{some_same}
use Rattle.pb_graph.proofs.BalanceLaws.{certificate_shows, no_meas, side_cuts_off}
use Rattle.pb_forest.specs.Forest.{IsForest}
use Rattle.pb_classify.specs.Certificate.{IsCutOf, IsCycleOf, IsFirstCycle, IsCanonical}
use Rattle.pb_classify.specs.Classification.{IsClassified}
use Rattle.pb_classify.proofs.RoundLemmas.{cycle_round, measured_joined}
use Rattle.pb_classify.proofs.ChordLemmas.{first_round}

-- a class that is shown, with the canonical certificate
item : (g : ProcessGraph) (held : List Bool) (j : ℕ) (s : Stream) (class : Class) (w : Witness) → IsProcessGraph g → IsForest g.streams held → slice_get g.streams j ≡ Some s
    → Shows g j s class w → IsCanonical g held j s class w → IsClassified g j (record { class = class; witness = w })
item g held j s class w is forest at shows canonical =
    let c : Classified = record { class = class; witness = w } in
    let certified : IsCertified g j c = (s, at, shows) in
    record {
      class = certificate_shows g j c is certified;
      certified = certified;
      canonical = record { held = held; forest = forest; s = s; at = at; canonical = canonical };
    }

-- a measured stream, with its own cycle
pub nonredundant_item : (g : ProcessGraph) (held : List Bool) (j : ℕ) (s : Stream) (steps : List Step) → IsProcessGraph g → IsForest g.streams held → slice_get g.streams j ≡ Some s
    → is_measured s ≡ true → Reaches (ends_of (unmeasured_but j) g.streams) s.from s.to → IsCycleOf g held j steps
    → IsClassified g j (record { class = Nonredundant; witness = Cycle steps })
nonredundant_item g held j s steps is forest at kind r cycle =
    let joined = λ (u : Stream) (at_u : slice_get g.streams j ≡ Some u).
    measured_joined g held j u forest (subst (λ (v : Stream). Reaches (ends_of (unmeasured_but j) g.streams) v.from v.to) (some_same (sym at ∙ at_u)) r) in
    item g held j s Nonredundant (Cycle steps) is forest at (kind, cycle_round g held j steps forest joined cycle) cycle

-- an unmeasured stream, with the first cycle that has it
pub unobservable_item : (g : ProcessGraph) (held : List Bool) (j : ℕ) (s : Stream) (steps : List Step) → IsProcessGraph g → IsForest g.streams held → slice_get g.streams j ≡ Some s
    → is_measured s ≡ false → IsFirstCycle g held j steps → IsClassified g j (record { class = Unobservable; witness = Cycle steps })
unobservable_item g held j s steps is forest at kind first =
    item g held j s Unobservable (Cycle steps) is forest at (no_meas s kind, first_round g held j steps forest first) first

-- a stream whose other end isn't reached, with its cut
abbrev pub determined_class : Stream → Class
determined_class s = if is_measured s then Redundant else Observable

pub determined_item : (g : ProcessGraph) (held : List Bool) (j : ℕ) (s : Stream) (side : List Bool) (members : List Member) → IsProcessGraph g → IsForest g.streams held
    → slice_get g.streams j ≡ Some s → IsReach (ends_of (unmeasured_but j) g.streams) g.nodes s.from side → is_in side s.to ≡ false → members ≡ boundary_of side g.streams
    → IsClassified g j (record { class = determined_class s; witness = Cut side members })
determined_item g held j s side members is forest at reach out whole =
    let cuts : CutsOff g j side members = subst (CutsOff g j side) (sym whole) (side_cuts_off g j s side at reach out) in
    let canonical : IsCutOf g j s side members = record { reach = reach; cut = cuts.cut } in
    elim (cases_Bool (is_measured s)) [
      | inl some ↦ subst (λ (b : Bool). IsClassified g j (record { class = if b then Redundant else Observable; witness = Cut side members })) (sym some)
          (item g held j s Redundant (Cut side members) is forest at (some, cuts) canonical)
      | inr none ↦ subst (λ (b : Bool). IsClassified g j (record { class = if b then Redundant else Observable; witness = Cut side members })) (sym none)
          (item g held j s Observable (Cut side members) is forest at (no_meas s none, cuts) canonical)
    ]

-- the ends of a stream of the graph are nodes of the graph
pub stream_is : (g : ProcessGraph) (j : ℕ) (s : Stream) → IsProcessGraph g → slice_get g.streams j ≡ Some s → IsStream g.nodes s
stream_is g j s is at = subst (IsStream g.nodes) (get_or_from_slice_get g.streams j s s at) (is.joins j s (slice_get_within g.streams j s at))

-- ---- one more item
get_front : {A : Type 0} (xs : List A) (x : A) (k : ℕ) → k < length xs → slice_get (xs ++ x ∷ []) k ≡ slice_get xs k
get_front [] x k lt = absurd (omega arith)
get_front (y ∷ ys) x zero lt = refl
get_front (y ∷ ys) x (suc k) lt = get_front ys x k (omega (arith, lt))

get_last : {A : Type 0} (xs : List A) (x y : A) (k : ℕ) → length xs ≤ k → slice_get (xs ++ x ∷ []) k ≡ Some y → (k ≡ length xs) × (x ≡ y)
get_last [] x y zero le at = (refl, some_same at)
get_last [] x y (suc k) le at = cc at
get_last (z ∷ zs) x y zero le at = absurd (omega (arith, le))
get_last (z ∷ zs) x y (suc k) le at = let rest = get_last zs x y k (omega (arith, le)) at in (ap suc rest.0, rest.1)

pub items_more : (g : ProcessGraph) (classes : List Classified) (c : Classified) → ((k : ℕ) (d : Classified) → slice_get classes k ≡ Some d → IsClassified g k d)
    → IsClassified g (length classes) c → (k : ℕ) (d : Classified) → slice_get (classes ++ c ∷ []) k ≡ Some d → IsClassified g k d
items_more g classes c right new k d at = elim (cases_lt k (length classes)) [
  | inl lt ↦ right k d (sym (get_front classes c k lt) ∙ at)
  | inr le ↦
      let last = get_last classes c d k le at in
      subst (λ (i : ℕ). IsClassified g i d) (sym last.0) (subst (IsClassified g (length classes)) last.1 new)
]
