-- The cycle of a stream outside the forest is a cycle, and its other streams are unmeasured.
use Rattle.std.proofs.Common.{◌≡◌, ◌≢◌, ◌∙◌, ℕ, Bool, true, false, not, ◌==◌, List, ◌∷◌, Some, slice_get, get_or, ap, sym, refl, subst, inl, inr, arith}
use Rattle.std.specs.List.{list_any}
use Rattle.std.proofs.lemmas.Bool.{cases_Bool, and_parts, and_from, or_left, not_from_false, eq-eqb, ne_eqb}
use Rattle.std.proofs.lemmas.Option.{slice_get_within}
use Rattle.pb_graph.specs.declared.records.Stream.{Stream}
use Rattle.pb_graph.specs.declared.records.Step.{Step}
use Rattle.pb_graph.specs.ProcessGraph.{ProcessGraph, is_measured}
use Rattle.pb_graph.specs.Walk.{ends_of, any_stream, unmeasured, unmeasured_but, Walks, Reaches}
use Rattle.pb_graph.specs.Cycle.{is_distinct, begin_of}
use Rattle.pb_graph.specs.Path.{IsPath, is_open}
use Rattle.pb_graph.specs.Certificates.{GoesRound}
use Rattle.pb_graph.proofs.WalkLemmas.{ends_is, IsWithin, walk_more, reach_more, reach_back}
use Rattle.pb_graph.proofs.BalanceLaws.{others_walk}
use Rattle.pb_forest.specs.Forest.{is_before, IsForest}
use Rattle.pb_forest.specs.Laws.{held_unmeasured}
use Rattle.pb_forest.proofs.ForestLaws.{spans_law, chord_law, acyclic_law, part_law, begin_is, streams_once}
use Rattle.pb_classify.specs.Certificate.{IsCycleOf, has_stream}
use Rattle.pb_classify.specs.Chords.{IsChord}

abbrev pub round_of : ℕ → List Step → List Step
round_of j back = record { stream = j; forward = true } ∷ back

-- the stream forward, and back over other unmeasured streams on a path
pub goes_round : (g : ProcessGraph) (j : ℕ) (s : Stream) (back : List Step) → slice_get g.streams j ≡ Some s
    → IsPath (ends_of (unmeasured_but j) g.streams) g.nodes g.streams s.to back s.from → GoesRound g j (round_of j back)
goes_round g j s back at path =
    let ss = g.streams in
    let first : Step = record { stream = j; forward = true } in
    let key = begin_of g.nodes ss in
    let e = ends_is any_stream ss j s true at refl in
    let begin : key first ≡ s.from = begin_is any_stream g.nodes ss first s.from s.to e in
    let facts = others_walk j s.to s.from ss back path.walk in
    let whole : Walks (ends_of any_stream ss) s.from (first ∷ back) s.from = (s.to, e, walk_more (unmeasured_but j) any_stream ss s.to s.from back (λ k u f h. refl) path.walk) in
    record {
      cycle = record {
        some = omega arith;
        back = subst (λ (n : ℕ). Walks (ends_of any_stream ss) n (first ∷ back) n) (sym begin) whole;
        each_stream = and_from (not (has_stream j back)) (is_distinct (λ (t : Step). t.stream) back) (not_from_false (has_stream j back) facts.0)
            (streams_once (unmeasured_but j) g.nodes ss s.to s.from back path);
        each_node = and_from (not (list_any (λ y. key y == key first) back)) (is_distinct key back)
            (not_from_false (list_any (λ y. key y == key first) back) (subst (λ (n : ℕ). list_any (λ y. key y == n) back ≡ false) (sym begin) path.last)) path.once;
      };
      has = or_left (j == j) (has_stream j back) (eq-eqb j j refl);
      others = ((λ ne u f. absurd (ne refl)), facts.1);
    }

-- ---- the path back in the forest, if unmeasured streams join the ends
held_part : (held : List Bool) (j : ℕ) (ss : List Stream) → get_or held j false ≡ false → IsWithin ss (held_unmeasured held) (unmeasured_but j)
held_part held j ss outside k t at both =
    let parts = and_parts (is_open held k t) (unmeasured k t) both in
    let other : k ≢ j = λ z. cc (sym parts.0 ∙ ap (λ (i : ℕ). get_or held i false) z ∙ outside) in
    and_from _ _ parts.1 (not_from_false (k == j) (ne_eqb k j other))

pub back_bare : (g : ProcessGraph) (held : List Bool) (j : ℕ) (s : Stream) (back : List Step) → IsForest g.streams held → get_or held j false ≡ false
    → Reaches (ends_of (held_unmeasured held) g.streams) s.from s.to → IsPath (ends_of (is_open held) g.streams) g.nodes g.streams s.to back s.from
    → IsPath (ends_of (unmeasured_but j) g.streams) g.nodes g.streams s.to back s.from
back_bare g held j s back forest outside joined path =
    let ss = g.streams in
    let part = part_law ss (is_open held) (held_unmeasured held) g.nodes s.to s.from back (acyclic_law ss held forest) (λ k t at both. (and_parts (is_open held k t) (unmeasured k t) both).0) path
    (reach_back (held_unmeasured held) ss s.from s.to joined) in
    record { walk = walk_more (held_unmeasured held) (unmeasured_but j) ss s.to s.from back (held_part held j ss outside) part.walk; once = part.once; last = part.last }

pub cycle_round : (g : ProcessGraph) (held : List Bool) (j : ℕ) (steps : List Step) → IsForest g.streams held
    → ((s : Stream) → slice_get g.streams j ≡ Some s → Reaches (ends_of (held_unmeasured held) g.streams) s.from s.to) → IsCycleOf g held j steps → GoesRound g j steps
cycle_round g held j steps forest joined cycle =
    subst (GoesRound g j) (sym cycle.round) (goes_round g j cycle.s cycle.back cycle.at (back_bare g held j cycle.s cycle.back forest cycle.outside (joined cycle.s cycle.at) cycle.path))

-- ---- a measured stream whose ends other unmeasured streams join
less_one : (j : ℕ) (ss : List Stream) → IsWithin ss (unmeasured_but j) unmeasured
less_one j ss k t at both = (and_parts (not (is_measured t)) (not (k == j)) both).0

pub measured_joined : (g : ProcessGraph) (held : List Bool) (j : ℕ) (s : Stream) → IsForest g.streams held
    → Reaches (ends_of (unmeasured_but j) g.streams) s.from s.to → Reaches (ends_of (held_unmeasured held) g.streams) s.from s.to
measured_joined g held j s forest r =
    (spans_law g.streams held forest).bare s.from s.to (reach_more (unmeasured_but j) unmeasured g.streams s.from s.to (less_one j g.streams) r)

before_measured : (measured : Bool) (j : ℕ) (ss : List Stream) → measured ≡ true → IsWithin ss (unmeasured_but j) (is_before measured j)
before_measured true j ss is k t at both = or_left _ _ (less_one j ss k t at both)
before_measured false j ss is k t at both = cc is

pub measured_outside : (g : ProcessGraph) (held : List Bool) (j : ℕ) (s : Stream) → IsForest g.streams held → slice_get g.streams j ≡ Some s → is_measured s ≡ true
    → Reaches (ends_of (unmeasured_but j) g.streams) s.from s.to → get_or held j false ≡ false
measured_outside g held j s forest at kind r = elim (cases_Bool (get_or held j false)) [
  | inr out ↦ out
  | inl in_it ↦
      let apart = (forest.decided j (slice_get_within g.streams j s at)).apart in_it s at in
      absurd (apart (reach_more (unmeasured_but j) (is_before (is_measured s) j) g.streams s.from s.to (before_measured (is_measured s) j g.streams kind) r))
]

-- ---- an unmeasured stream outside the forest
pub chord_joined : (g : ProcessGraph) (held : List Bool) (k : ℕ) (s : Stream) → IsForest g.streams held → IsChord g held k s
    → Reaches (ends_of (held_unmeasured held) g.streams) s.from s.to
chord_joined g held k s forest chord = chord_law g.streams held k s forest chord.at chord.unmeasured chord.outside

-- so there is a path back
pub back_there : (g : ProcessGraph) (held : List Bool) (s : Stream) → Reaches (ends_of (held_unmeasured held) g.streams) s.from s.to
    → Reaches (ends_of (is_open held) g.streams) s.to s.from
back_there g held s r =
    reach_back (is_open held) g.streams s.from s.to
    (reach_more (held_unmeasured held) (is_open held) g.streams s.from s.to (λ k t at both. (and_parts (is_open held k t) (unmeasured k t) both).0) r)
