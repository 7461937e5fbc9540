-- Cycles given to the streams on them.
use Rattle.std.proofs.Common.{◌≡◌, ◌∙◌, ℕ, ◌+◌, ◌<◌, Bool, List, [], ◌∷◌, length, Option, Some, None, get_or, if◌then◌else◌, sym, subst, arith}
use Rattle.std.specs.List.{All, AllByRecursion}
use Rattle.std.proofs.lemmas.Option.{slice_get_within}
use Rattle.pb_fixed.proofs.Lists.{All-from_recursion}
use Rattle.pb_graph.specs.declared.records.Stream.{Stream}
use Rattle.pb_graph.specs.declared.records.Step.{Step}
use Rattle.pb_graph.specs.ProcessGraph.{ProcessGraph}
use Rattle.pb_graph.specs.Walk.{ends_of, Walks}
use Rattle.pb_graph.specs.Path.{is_open}
use Rattle.pb_graph.proofs.WalkLemmas.{stream_of}
use Rattle.pb_forest.specs.Forest.{IsForest}
use Rattle.pb_classify.specs.Certificate.{IsCycleOf, has_stream}
use Rattle.pb_classify.specs.Chords.{IsChord, IsFirstBefore, AreFirstBefore, after_cycle}
use Rattle.pb_classify.proofs.RoundLemmas.{round_of}
use Rattle.pb_classify.proofs.ChordLemmas.{first_none, first_more}

-- stream j's cycle after some steps of a new one
abbrev pub after_steps : List Step → List Step → ℕ → Option (List Step) → Option (List Step)
after_steps steps done j None = if has_stream j done then Some steps else None
after_steps steps done j (Some old) = Some old

-- ---- the streams of a cycle exist
steps_within : (may : ℕ → Stream → Bool) (ss : List Stream) (a b : ℕ) (steps : List Step) → Walks (ends_of may ss) a steps b → AllByRecursion (λ (t : Step). t.stream < length ss) steps
steps_within may ss a b [] w = tt
steps_within may ss a b (t ∷ rest) (c, e, w) =
    let (s, at, ok, goes) = stream_of may ss t (a, c) e in
    (slice_get_within ss t.stream s at, steps_within may ss c b rest w)

pub cycle_within : (g : ProcessGraph) (held : List Bool) (e count : ℕ) (steps : List Step) → count ≡ length g.streams → IsCycleOf g held e steps
    → All (λ (t : Step). t.stream < count) steps
cycle_within g held e count steps same x =
    let rest = steps_within (is_open held) g.streams x.s.to x.s.from x.back x.path.walk in
    let whole : AllByRecursion (λ (t : Step). t.stream < length g.streams) (round_of e x.back) = (slice_get_within g.streams e x.s x.at, rest) in
    subst (λ (n : ℕ). All (λ (t : Step). t.stream < n) steps) (sym same)
    (All-from_recursion (λ (t : Step). t.stream < length g.streams) steps (subst (AllByRecursion (λ (t : Step). t.stream < length g.streams)) (sym x.round) whole))

-- ---- one more stream
pub all_none : (g : ProcessGraph) (held : List Bool) (n : ℕ) (cycles : List (Option (List Step))) → ((s : Stream) → IsChord g held n s → ⊥) → AreFirstBefore g held n cycles
    → AreFirstBefore g held (n + 1) cycles
all_none g held n cycles apart known = record {
  each = known.each;
  first = λ j lt. first_none g held n j (get_or cycles j None) apart (known.first j lt);
}

pub all_more : (g : ProcessGraph) (held : List Bool) (n : ℕ) (s : Stream) (steps : List Step) (cycles new : List (Option (List Step))) → IsForest g.streams held → IsChord g held n s
    → IsCycleOf g held n steps → length new ≡ length cycles
    → ((j : ℕ) → j < length cycles → get_or new j None ≡ after_cycle steps j (get_or cycles j None)) → AreFirstBefore g held n cycles → AreFirstBefore g held (n + 1) new
all_more g held n s steps cycles new forest chord cycle same is known = record {
  each = same ∙ known.each;
  first = λ j lt.
      subst (IsFirstBefore g held (n + 1) j) (sym (is j (omega (arith, lt, known.each)))) (first_more g held n j s steps (get_or cycles j None) forest chord cycle (known.first j lt));
}
