-- Statement. What a classification is.
use Rattle.std.specs.Prelude.{◌≡◌, ℕ, List, length, Some, slice_get}
use Rattle.pb_graph.specs.declared.records.Classified.{Classified}
use Rattle.pb_graph.specs.ProcessGraph.{ProcessGraph}
use Rattle.pb_graph.specs.Classes.{IsClassOf}
use Rattle.pb_graph.specs.Certificates.{IsCertified}
use Rattle.pb_classify.specs.Certificate.{IsCertificate}

-- the class of stream j holds by its meaning, and its certificate shows it and is the canonical one
pub record IsClassified (graph : ProcessGraph) (j : ℕ) (classified : Classified) : Type 0 where
  pub class : IsClassOf graph j classified.class
  pub certified : IsCertified graph j classified
  pub canonical : IsCertificate graph j classified

-- one item for each stream, in order, each rightly classified
pub record IsClassification (graph : ProcessGraph) (classes : List Classified) : Type 0 where
  pub each : length classes ≡ length graph.streams
  pub right : (j : ℕ) (c : Classified) → slice_get classes j ≡ Some c → IsClassified graph j c
