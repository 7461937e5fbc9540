-- Graphs without the measurements of some streams.
use Rattle.std.proofs.Common.{◌≡◌, ◌∙◌, ℕ, zero, suc, List, [], ◌∷◌, ◌++◌, length, None, refl, ap, arith}
use Rattle.std.specs.List.{AllByRecursion}
use Rattle.std.proofs.lemmas.List.Elements.{All-from_recursion, recursion_from_All}
use Rattle.pb_graph.specs.declared.records.Stream.{Stream}
use Rattle.pb_study.specs.declared.results.Taken.{Taken}
use Rattle.pb_graph.specs.ProcessGraph.{ProcessGraph, IsProcessGraph, IsStream, IsWithinLimits, unmeasured_at}
use Rattle.pb_elim.specs.Study.{without_taken}

pub length-unmeasured : (j : ℕ) (ss : List Stream) → length (unmeasured_at j ss) ≡ length ss
length-unmeasured zero [] = refl
length-unmeasured (suc j) [] = refl
length-unmeasured zero (s ∷ ss) = refl
length-unmeasured (suc j) (s ∷ ss) = ap suc (length-unmeasured j ss)

-- what holds of each stream, and of the stream without its measurement
all_unmeasured : (P : Stream → Type 0) → ((s : Stream) → P s → P (record s { meas = None })) → (j : ℕ) (ss : List Stream) → AllByRecursion P ss → AllByRecursion P (unmeasured_at j ss)
all_unmeasured P each zero [] all = tt
all_unmeasured P each (suc j) [] all = tt
all_unmeasured P each zero (s ∷ ss) (here, all) = (each s here, all)
all_unmeasured P each (suc j) (s ∷ ss) (here, all) = (here, all_unmeasured P each j ss all)

pub unmeasured_limits : (g : ProcessGraph) (j : ℕ) → IsProcessGraph g → IsProcessGraph (record g { streams = unmeasured_at j g.streams })
unmeasured_limits g j limits = record {
  env = limits.env;
  few_nodes = limits.few_nodes;
  few_streams = omega (arith, limits.few_streams, length-unmeasured j g.streams);
  joins =
      All-from_recursion (IsStream g.nodes) (unmeasured_at j g.streams)
      (all_unmeasured (IsStream g.nodes) (λ s is. record { from = is.from; to = is.to; apart = is.apart }) j g.streams (recursion_from_All (IsStream g.nodes) g.streams limits.joins));
  limits =
      All-from_recursion IsWithinLimits (unmeasured_at j g.streams)
      (all_unmeasured IsWithinLimits (λ s is. tt) j g.streams (recursion_from_All IsWithinLimits g.streams limits.limits));
}

pub without_limits : (g : ProcessGraph) (taken : List Taken) → IsProcessGraph g → IsProcessGraph (without_taken g taken)
without_limits g [] limits = limits
without_limits g (t ∷ taken) limits = without_limits (record g { streams = unmeasured_at t.stream g.streams }) taken (unmeasured_limits g t.stream limits)

pub without_nodes : (g : ProcessGraph) (taken : List Taken) → (without_taken g taken).nodes ≡ g.nodes
without_nodes g [] = refl
without_nodes g (t ∷ taken) = without_nodes (record g { streams = unmeasured_at t.stream g.streams }) taken

pub without_streams : (g : ProcessGraph) (taken : List Taken) → length (without_taken g taken).streams ≡ length g.streams
without_streams g [] = refl
without_streams g (t ∷ taken) = without_streams (record g { streams = unmeasured_at t.stream g.streams }) taken ∙ length-unmeasured t.stream g.streams

-- one more stream
pub without_push : (g : ProcessGraph) (taken : List Taken) (t : Taken) → without_taken g (taken ++ t ∷ []) ≡ record (without_taken g taken) { streams = unmeasured_at t.stream (without_taken g taken).streams }
without_push g [] t = refl
without_push g (u ∷ taken) t = without_push (record g { streams = unmeasured_at u.stream g.streams }) taken t
