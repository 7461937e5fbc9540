-- A graph has only one classification: each part of a canonical certificate is determined.
use Rattle.std.proofs.Common.{◌≡◌, ◌∙◌, ℕ, zero, suc, Bool, true, List, [], ◌∷◌, length, Some, slice_get, refl, sym, ap, ap₂, subst, inl, inr, arith}
use Rattle.std.proofs.lemmas.Bool.{cases_order}
use Rattle.pb_graph.specs.declared.records.Stream.{Stream}
use Rattle.pb_graph.specs.declared.records.Member.{Member}
use Rattle.pb_graph.specs.declared.records.Step.{Step}
use Rattle.pb_graph.specs.declared.records.Class.{Class}
use Rattle.pb_graph.specs.declared.records.Class.TheVariants.{Observable, Unobservable, Redundant, Nonredundant}
use Rattle.pb_graph.specs.declared.records.Witness.{Witness}
use Rattle.pb_graph.specs.declared.records.Witness.TheVariants.{Cut, Cycle}
use Rattle.pb_graph.specs.declared.records.Classified.{Classified}
use Rattle.pb_graph.specs.ProcessGraph.{ProcessGraph}
use Rattle.pb_graph.specs.Walk.{ends_of, unmeasured_but}
use Rattle.pb_graph.specs.Boundary.{boundary_of}
use Rattle.pb_graph.specs.Path.{IsPath, is_open}
use Rattle.pb_graph.proofs.WalkLemmas.{some_same}
use Rattle.pb_graph.proofs.ReachLemmas.{one_reach}
use Rattle.pb_graph.proofs.BalanceLaws.{one_class}
use Rattle.pb_forest.specs.Forest.{IsForest}
use Rattle.pb_forest.proofs.ForestLaws.{unique_law, acyclic_law, one_forest_law}
use Rattle.pb_classify.specs.Certificate.{IsCutOf, IsCycleOf, IsFirstCycle, IsCanonical}
use Rattle.pb_classify.specs.Classification.{IsClassified, IsClassification}

-- lists of the same length with the same items are the same
same_items : {A : Type 0} (xs ys : List A) → length xs ≡ length ys → ((k : ℕ) (x y : A) → slice_get xs k ≡ Some x → slice_get ys k ≡ Some y → x ≡ y) → xs ≡ ys
same_items [] [] len each = refl
same_items [] (y ∷ ys) len each = absurd (omega (arith, len))
same_items (x ∷ xs) [] len each = absurd (omega (arith, len))
same_items {A} (x ∷ xs) (y ∷ ys) len each = ap₂ (λ (a : A) (rest : List A). a ∷ rest) (each zero x y refl refl) (same_items xs ys (omega (arith, len)) (λ k a b f g. each (suc k) a b f g))

-- only one path leads back in the forest
pub one_cycle : (g : ProcessGraph) (held : List Bool) (j : ℕ) (steps other : List Step) → IsForest g.streams held → IsCycleOf g held j steps → IsCycleOf g held j other → steps ≡ other
one_cycle g held j steps other forest x y =
    let same : y.s ≡ x.s = some_same (sym y.at ∙ x.at) in
    let path : IsPath (ends_of (is_open held) g.streams) g.nodes g.streams x.s.to y.back x.s.from =
    subst (λ (s : Stream). IsPath (ends_of (is_open held) g.streams) g.nodes g.streams s.to y.back s.from) same y.path in
    let back : x.back ≡ y.back = unique_law g.streams (is_open held) g.nodes x.s.to x.s.from x.back y.back (acyclic_law g.streams held forest) x.path path in
    x.round ∙ ap (λ (b : List Step). record { stream = j; forward = true } ∷ b) back ∙ sym y.round

-- only one stream is the first
one_first : (g : ProcessGraph) (held : List Bool) (j : ℕ) (steps other : List Step) → IsForest g.streams held → IsFirstCycle g held j steps → IsFirstCycle g held j other → steps ≡ other
one_first g held j steps other forest x y = elim (cases_order x.e y.e) [
  | inl same ↦ one_cycle g held y.e steps other forest (subst (λ (e : ℕ). IsCycleOf g held e steps) same x.cycle) y.cycle
  | inr apart ↦ elim apart [
    | inl less ↦ cc (sym x.has ∙ y.first x.e steps less x.unmeasured x.cycle)
    | inr more ↦ cc (sym y.has ∙ x.first y.e other more y.unmeasured y.cycle)
  ]
]

one_cut : (g : ProcessGraph) (j : ℕ) (s : Stream) (side other : List Bool) (members others : List Member) → IsCutOf g j s side members → IsCutOf g j s other others
    → Cut side members ≡ Cut other others
one_cut g j s side other members others x y =
    let same = one_reach (ends_of (unmeasured_but j) g.streams) g.nodes s.from side other x.reach y.reach in
    ap₂ (λ (a : List Bool) (b : List Member). Cut a b) same (x.cut.boundary ∙ ap (λ (a : List Bool). boundary_of a g.streams) same ∙ sym y.cut.boundary)

one_witness : (g : ProcessGraph) (held : List Bool) (j : ℕ) (s : Stream) (class : Class) (w v : Witness) → IsForest g.streams held → IsCanonical g held j s class w
    → IsCanonical g held j s class v → w ≡ v
one_witness g held j s Observable (Cut a m) (Cut b n) forest x y = one_cut g j s a b m n x y
one_witness g held j s Observable (Cut a m) (Cycle q) forest x y = absurd y
one_witness g held j s Observable (Cycle p) v forest x y = absurd x
one_witness g held j s Redundant (Cut a m) (Cut b n) forest x y = one_cut g j s a b m n x y
one_witness g held j s Redundant (Cut a m) (Cycle q) forest x y = absurd y
one_witness g held j s Redundant (Cycle p) v forest x y = absurd x
one_witness g held j s Unobservable (Cycle p) (Cycle q) forest x y = ap (λ (z : List Step). Cycle z) (one_first g held j p q forest x y)
one_witness g held j s Unobservable (Cycle p) (Cut b n) forest x y = absurd y
one_witness g held j s Unobservable (Cut a m) v forest x y = absurd x
one_witness g held j s Nonredundant (Cycle p) (Cycle q) forest x y = ap (λ (z : List Step). Cycle z) (one_cycle g held j p q forest x y)
one_witness g held j s Nonredundant (Cycle p) (Cut b n) forest x y = absurd y
one_witness g held j s Nonredundant (Cut a m) v forest x y = absurd x

one_item : (g : ProcessGraph) (j : ℕ) (c d : Classified) → IsClassified g j c → IsClassified g j d → c ≡ d
one_item g j c d x y =
    let class : c.class ≡ d.class = one_class g j c.class d.class x.class y.class in
    let held : y.canonical.held ≡ x.canonical.held = one_forest_law g.streams y.canonical.held x.canonical.held y.canonical.forest x.canonical.forest in
    let stream : y.canonical.s ≡ x.canonical.s = some_same (sym y.canonical.at ∙ x.canonical.at) in
    let moved : IsCanonical g x.canonical.held j x.canonical.s c.class d.witness =
    subst (λ (h : List Bool). IsCanonical g h j x.canonical.s c.class d.witness) held
    (subst (λ (s : Stream). IsCanonical g y.canonical.held j s c.class d.witness) stream
    (subst (λ (k : Class). IsCanonical g y.canonical.held j y.canonical.s k d.witness) (sym class) y.canonical.canonical)) in
    let witness : c.witness ≡ d.witness = one_witness g x.canonical.held j x.canonical.s c.class c.witness d.witness x.canonical.forest x.canonical.canonical moved in
    ap₂ (λ (k : Class) (w : Witness). record { class = k; witness = w }) class witness

pub one_classification : (g : ProcessGraph) (one other : List Classified) → IsClassification g one → IsClassification g other → one ≡ other
one_classification g one other x y =
    same_items one other (x.each ∙ sym y.each) (λ j c d at at_d. one_item g j c d (x.right j c at) (y.right j d at_d))
