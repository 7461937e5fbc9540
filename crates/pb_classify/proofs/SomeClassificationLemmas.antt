-- Each process graph has a classification: for each stream, the side that its `from` end reaches exists, and it decides the class.
use Rattle.std.proofs.Common.{◌≡◌, ◌∙◌, ℕ, zero, suc, ◌+◌, ◌≤◌, Bool, true, false, List, [], ◌∷◌, ◌++◌, length, Option, Some, None, slice_get, get_or, refl, sym, ap, subst, inl, inr, arith, length-append}
use Rattle.std.proofs.lemmas.Bool.{cases_Bool}
use Rattle.std.proofs.lemmas.Option.{slice_get-get_or, slice_get_within}
use Rattle.pb_graph.specs.declared.records.Stream.{Stream}
use Rattle.pb_graph.specs.declared.records.Step.{Step}
use Rattle.pb_graph.specs.declared.records.Class.TheVariants.{Unobservable, Nonredundant}
use Rattle.pb_graph.specs.declared.records.Witness.TheVariants.{Cut, Cycle}
use Rattle.pb_graph.specs.declared.records.Classified.{Classified}
use Rattle.pb_graph.specs.ProcessGraph.{ProcessGraph, IsProcessGraph, is_measured}
use Rattle.pb_graph.specs.Walk.{ends_of, unmeasured_but, is_in, Reaches}
use Rattle.pb_graph.specs.Path.{is_open}
use Rattle.pb_graph.specs.Boundary.{boundary_of}
use Rattle.pb_graph.proofs.WalkLemmas.{some_same}
use Rattle.pb_forest.specs.Forest.{IsForest}
use Rattle.pb_graph.proofs.ReachLemmas.{some_reach}
use Rattle.pb_forest.proofs.ForestLaws.{some_forest_law, some_path_law}
use Rattle.pb_classify.specs.Certificate.{IsCycleOf}
use Rattle.pb_classify.specs.Classification.{IsClassified}
use Rattle.pb_classify.specs.Chords.{IsChord, IsFirstBefore, after_cycle}
use Rattle.pb_classify.specs.Laws.{SomeClassificationLaw}
use Rattle.pb_classify.proofs.RoundLemmas.{back_there, chord_joined, measured_joined, measured_outside}
use Rattle.pb_classify.proofs.ChordLemmas.{some_has, first_none, first_more}
use Rattle.pb_classify.proofs.ItemLemmas.{determined_class, determined_item, nonredundant_item, unobservable_item, stream_is, items_more}

-- a stream outside the forest whose ends held streams join has a cycle
some_cycle : (g : ProcessGraph) (held : List Bool) (j : ℕ) (s : Stream) → slice_get g.streams j ≡ Some s → get_or held j false ≡ false
    → Reaches (ends_of (is_open held) g.streams) s.to s.from → (steps : List Step) × IsCycleOf g held j steps
some_cycle g held j s at outside joined =
    let (back, path) = some_path_law g.streams (is_open held) g.nodes s.to s.from joined in
    (record { stream = j; forward = true } ∷ back, record { s = s; at = at; outside = outside; back = back; path = path; round = refl })

-- the first cycle that has stream j, of a chord among the first n streams
some_first : (g : ProcessGraph) (held : List Bool) (n j : ℕ) → IsForest g.streams held → n ≤ length g.streams → (first : Option (List Step)) × IsFirstBefore g held n j first
some_first g held zero j forest le = (None, λ k s lt chord. absurd (omega (arith, lt)))
some_first g held (suc n) j forest le =
    let (first, known) = some_first g held n j forest (omega (arith, le)) in
    let next : n + 1 ≡ suc n = omega arith in
    let s : Stream = get_or g.streams n (record { from = 0; to = 0; meas = None }) in
    let at : slice_get g.streams n ≡ Some s = slice_get-get_or g.streams n _ (omega (arith, le)) in
    let is : (t : Stream) → slice_get g.streams n ≡ Some t → s ≡ t = λ t there. some_same (sym at ∙ there) in
    subst (λ (m : ℕ). (first : Option (List Step)) × IsFirstBefore g held m j first) next (elim (cases_Bool (is_measured s)) [
      | inl measured ↦ (first, first_none g held n j first (λ t chord. cc (sym measured ∙ ap is_measured (is t chord.at) ∙ chord.unmeasured)) known)
      | inr bare ↦ elim (cases_Bool (get_or held n false)) [
        | inl in_it ↦ (first, first_none g held n j first (λ t chord. cc (sym in_it ∙ chord.outside)) known)
        | inr outside ↦
            let chord : IsChord g held n s = record { at = at; unmeasured = bare; outside = outside } in
            let (steps, cycle) = some_cycle g held n s at outside (back_there g held s (chord_joined g held n s forest chord)) in
            (after_cycle steps j first, first_more g held n j s steps first forest chord cycle known)
      ]
    ])

-- a stream whose ends other unmeasured streams join
some_free : (g : ProcessGraph) (held : List Bool) (j : ℕ) (s : Stream) → IsProcessGraph g → IsForest g.streams held → slice_get g.streams j ≡ Some s
    → Reaches (ends_of (unmeasured_but j) g.streams) s.from s.to → (c : Classified) × IsClassified g j c
some_free g held j s is forest at joined = elim (cases_Bool (is_measured s)) [
  | inl measured ↦
      let outside = measured_outside g held j s forest at measured joined in
      let (steps, cycle) = some_cycle g held j s at outside (back_there g held s (measured_joined g held j s forest joined)) in
      (record { class = Nonredundant; witness = Cycle steps }, nonredundant_item g held j s steps is forest at measured joined cycle)
  | inr bare ↦
      let (first, known) = some_first g held (length g.streams) j forest (omega arith) in
      elim first as (λ (o : Option (List Step)). IsFirstBefore g held (length g.streams) j o → (c : Classified) × IsClassified g j c) [
        | None ↦ λ none. absurd (some_has g held j s forest at bare (λ k t chord. none k t (slice_get_within g.streams k t chord.at) chord) joined)
        | Some steps ↦ λ cycle. (record { class = Unobservable; witness = Cycle steps }, unobservable_item g held j s steps is forest at bare cycle)
      ] known
]

some_item : (g : ProcessGraph) (held : List Bool) (j : ℕ) (s : Stream) → IsProcessGraph g → IsForest g.streams held → slice_get g.streams j ≡ Some s
    → (c : Classified) × IsClassified g j c
some_item g held j s is forest at =
    let (side, reach) = some_reach g.streams g.nodes (unmeasured_but j) s.from (stream_is g j s is at).from (λ k t there. stream_is g k t is there) in
    elim (cases_Bool (is_in side s.to)) [
      | inl inside ↦ some_free g held j s is forest at (reach.reached s.to inside)
      | inr out ↦
          let members = boundary_of side g.streams in
          (record { class = determined_class s; witness = Cut side members }, determined_item g held j s side members is forest at reach out refl)
    ]

-- the first n streams with their classes
record HasClasses (g : ProcessGraph) (n : ℕ) : Type 0 where
  classes : List Classified
  each : length classes ≡ n
  right : (j : ℕ) (c : Classified) → slice_get classes j ≡ Some c → IsClassified g j c

some_classes : (g : ProcessGraph) (held : List Bool) (n : ℕ) → IsProcessGraph g → IsForest g.streams held → n ≤ length g.streams → HasClasses g n
some_classes g held zero is forest le = record { classes = []; each = refl; right = λ j c at. cc at }
some_classes g held (suc n) is forest le =
    let less = some_classes g held n is forest (omega (arith, le)) in
    let s : Stream = get_or g.streams n (record { from = 0; to = 0; meas = None }) in
    let (c, item) = some_item g held n s is forest (slice_get-get_or g.streams n _ (omega (arith, le))) in
    let here : IsClassified g (length less.classes) c = subst (λ (i : ℕ). IsClassified g i c) (sym less.each) item in
    record {
      classes = less.classes ++ c ∷ [];
      each = omega (arith, length-append less.classes (c ∷ []), less.each);
      right = items_more g less.classes c less.right here;
    }

pub some_classification_law : SomeClassificationLaw
some_classification_law graph is =
    let (held, forest) = some_forest_law graph.streams in
    let made = some_classes graph held (length graph.streams) is forest (omega arith) in
    (made.classes, record { each = made.each; right = made.right })
