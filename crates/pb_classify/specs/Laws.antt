-- Statement. What is proved of classifications.
use Rattle.std.specs.Prelude.{◌≡◌, List}
use Rattle.pb_graph.specs.declared.records.Classified.{Classified}
use Rattle.pb_graph.specs.ProcessGraph.{ProcessGraph, IsProcessGraph}
use Rattle.pb_graph.specs.Alike.{AreAlike}
use Rattle.pb_classify.specs.Classification.{IsClassification}

-- each process graph has a classification
abbrev pub SomeClassificationLaw : Type 0
SomeClassificationLaw = (graph : ProcessGraph) → IsProcessGraph graph → (classes : List Classified) × IsClassification graph classes

-- a graph has only one classification, including the certificates
abbrev pub OneClassificationLaw : Type 0
OneClassificationLaw = (graph : ProcessGraph) (one other : List Classified) → IsClassification graph one → IsClassification graph other → one ≡ other

-- graphs that differ only in values and variances have the same classification
abbrev pub AlikeLaw : Type 0
AlikeLaw =
    (one other : ProcessGraph) (classes : List Classified) → IsProcessGraph other → AreAlike one other
    → IsClassification one classes → IsClassification other classes
