-- The class that a certificate shows, and that each stream has one.
use Rattle.std.proofs.Common.{◌≡◌, ◌∙◌, ℕ, ◌<◌, length, get_or, Some, None, slice_get, IsSome, refl, sym, subst, inl, inr}
use Rattle.std.proofs.lemmas.Bool.{cases_Bool}
use Rattle.std.proofs.lemmas.Option.{slice_get-get_or}
use Rattle.pb_fixed.proofs.Lists.{all_each}
use Rattle.pb_graph.specs.declared.records.Stream.{Stream}
use Rattle.pb_graph.specs.declared.records.Class.{Class}
use Rattle.pb_graph.specs.declared.records.Class.TheVariants.{Observable, Unobservable, Redundant, Nonredundant}
use Rattle.pb_graph.specs.declared.records.Witness.{Witness}
use Rattle.pb_graph.specs.declared.records.Witness.TheVariants.{Cut, Cycle}
use Rattle.pb_graph.specs.declared.records.Classified.{Classified}
use Rattle.pb_graph.specs.ProcessGraph.{ProcessGraph, IsProcessGraph, IsStream, is_measured, some_stream}
use Rattle.pb_graph.specs.Walk.{unmeasured_but, is_in}
use Rattle.pb_graph.specs.Classes.{IsClass, IsClassOf}
use Rattle.pb_graph.specs.Certificates.{Shows, IsCertified}
use Rattle.pb_graph.proofs.WalkLemmas.{some_same}
use Rattle.pb_graph.proofs.ReachLemmas.{some_reach}
use Rattle.pb_graph.proofs.CutLemmas.{cut_determines}
use Rattle.pb_graph.proofs.CirculationLemmas.{cycle_frees}
use Rattle.pb_graph.proofs.DeterminedLemmas.{not_both, no_meas, reach_decides}

shows_class : (g : ProcessGraph) (j : ℕ) (s : Stream) (class : Class) (witness : Witness) → IsProcessGraph g → Shows g j s class witness → IsClass g j s class
shows_class g j s Observable (Cut side members) is h = (h.0, cut_determines g j side members is h.1)
shows_class g j s Redundant (Cut side members) is h = (h.0, cut_determines g j side members is h.1)
shows_class g j s Unobservable (Cycle steps) is h = (h.0, cycle_frees g j steps is h.1)
shows_class g j s Nonredundant (Cycle steps) is h = (h.0, cycle_frees g j steps is h.1)
shows_class g j s Observable (Cycle steps) is h = absurd h
shows_class g j s Redundant (Cycle steps) is h = absurd h
shows_class g j s Unobservable (Cut side members) is h = absurd h
shows_class g j s Nonredundant (Cut side members) is h = absurd h

pub certificate_shows : (g : ProcessGraph) (j : ℕ) (c : Classified) → IsProcessGraph g → IsCertified g j c → IsClassOf g j c.class
certificate_shows g j c is (s, at, shows) = (s, at, shows_class g j s c.class c.witness is shows)

no_and_some : (s : Stream) → s.meas ≡ None → IsSome s.meas → ⊥
no_and_some s none some = cc (rw none at some)

same_class : (g : ProcessGraph) (j : ℕ) (s : Stream) (one other : Class) → IsClass g j s one → IsClass g j s other → one ≡ other
same_class g j s Observable Observable x y = refl
same_class g j s Observable Unobservable x y = absurd (not_both g j x.1 y.1)
same_class g j s Observable Redundant x y = absurd (no_and_some s x.0 y.0)
same_class g j s Observable Nonredundant x y = absurd (no_and_some s x.0 y.0)
same_class g j s Unobservable Observable x y = absurd (not_both g j y.1 x.1)
same_class g j s Unobservable Unobservable x y = refl
same_class g j s Unobservable Redundant x y = absurd (no_and_some s x.0 y.0)
same_class g j s Unobservable Nonredundant x y = absurd (no_and_some s x.0 y.0)
same_class g j s Redundant Observable x y = absurd (no_and_some s y.0 x.0)
same_class g j s Redundant Unobservable x y = absurd (no_and_some s y.0 x.0)
same_class g j s Redundant Redundant x y = refl
same_class g j s Redundant Nonredundant x y = absurd (not_both g j x.1 y.1)
same_class g j s Nonredundant Observable x y = absurd (no_and_some s y.0 x.0)
same_class g j s Nonredundant Unobservable x y = absurd (no_and_some s y.0 x.0)
same_class g j s Nonredundant Redundant x y = absurd (not_both g j y.1 x.1)
same_class g j s Nonredundant Nonredundant x y = refl

pub one_class : (g : ProcessGraph) (j : ℕ) (one other : Class) → IsClassOf g j one → IsClassOf g j other → one ≡ other
one_class g j one other (s, at, x) (u, at_u, y) = same_class g j s one other x (subst (λ (v : Stream). IsClass g j v other) (some_same (sym at_u ∙ at)) y)

-- each stream is determined or free, by what its `from` end reaches
pub each_class : (g : ProcessGraph) (j : ℕ) → IsProcessGraph g → j < length g.streams → (class : Class) × IsClassOf g j class
each_class g j is lt =
    let s : Stream = get_or g.streams j some_stream in
    let at : slice_get g.streams j ≡ Some s = slice_get-get_or g.streams j some_stream lt in
    let each = all_each (IsStream g.nodes) g.streams is.joins in
    let (side, reach) = some_reach g.streams g.nodes (unmeasured_but j) s.from (each j s at).from each in
    let decided = reach_decides g j s side is at reach in
    elim (cases_Bool (is_measured s)) [
      | inl measured ↦ elim (cases_Bool (is_in side s.to)) [
        | inl inside ↦ (Nonredundant, (s, at, (measured, decided.free.1 inside)))
        | inr out ↦ (Redundant, (s, at, (measured, decided.determined.1 out)))
      ]
      | inr plain ↦ elim (cases_Bool (is_in side s.to)) [
        | inl inside ↦ (Unobservable, (s, at, (no_meas s plain, decided.free.1 inside)))
        | inr out ↦ (Observable, (s, at, (no_meas s plain, decided.determined.1 out)))
      ]
    ]
