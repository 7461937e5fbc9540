-- Statement. What is proved of stages and studies.
use Rattle.std.specs.Prelude.{◌≡◌, All}
use Rattle.pb_study.specs.declared.results.Stage.{Stage}
use Rattle.pb_study.specs.declared.results.Study.{Study}
use Rattle.pb_study.specs.declared.results.Options.{Options}
use Rattle.pb_study.specs.declared.results.Critical.{Critical}
use Rattle.pb_graph.specs.ProcessGraph.{ProcessGraph, IsProcessGraph}
use Rattle.pb_study.specs.WellFormed.{IsWellFormedStudy}
use Rattle.pb_gap.specs.Solution.{IsSolution}
use Rattle.pb_study.specs.Options.{AreOptions}
use Rattle.pb_study.specs.Criticals.{AreCritical}
use Rattle.pb_stage.specs.Printed.{printed_price, printed_flows}
use Rattle.pb_elim.specs.Study.{IsStudyOf}
use Rattle.pb_stage.specs.Certified.{IsCertifiedStage, TestsEachRedundant, HasLeastThroughout}
use Rattle.pb_elim.specs.Decided.{AreMeasuresRight}

-- each stage of a study is certified
abbrev pub CertifiedLaw : Type 0
CertifiedLaw = (graph : ProcessGraph) (options : Options) (critical : Critical) (study : Study)
    → IsProcessGraph graph → IsStudyOf graph options critical study
    → All IsCertifiedStage study.stages

-- the tests of each stage of a study are those of the redundant streams
abbrev pub TestedLaw : Type 0
TestedLaw = (graph : ProcessGraph) (options : Options) (critical : Critical) (study : Study)
    → IsStudyOf graph options critical study → All TestsEachRedundant study.stages

-- in each stage of a study, each stream that has bounds has least bounds
abbrev pub LeastThroughoutLaw : Type 0
LeastThroughoutLaw = (graph : ProcessGraph) (options : Options) (critical : Critical) (study : Study)
    → IsStudyOf graph options critical study → All HasLeastThroughout study.stages

-- the decided tests of measurements of each stage of a study are right
abbrev pub DecidedLaw : Type 0
DecidedLaw = (graph : ProcessGraph) (options : Options) (critical : Critical) (study : Study)
    → IsProcessGraph graph → AreCritical critical → IsStudyOf graph options critical study
    → All AreMeasuresRight study.stages

-- a study is well formed: each of its numbers is within the range in which it is printed
abbrev pub FormedLaw : Type 0
FormedLaw = (graph : ProcessGraph) (options : Options) (critical : Critical) (study : Study)
    → IsProcessGraph graph → AreOptions options → AreCritical critical
    → IsStudyOf graph options critical study → IsWellFormedStudy graph study

-- prices, flows and sweeps of a stage are the solution of its graph
abbrev pub IsSolved : Options → Stage → Type 0
IsSolved options stage =
    IsSolution stage.graph options.gap options.sweeps stage.solved
    (printed_price stage) (printed_flows stage)

abbrev pub SolutionLaw : Type 0
SolutionLaw = (graph : ProcessGraph) (options : Options) (critical : Critical) (study : Study)
    → IsStudyOf graph options critical study → All (IsSolved options) study.stages

-- a process graph has a study, for all options within their limits and all critical values
abbrev pub SomeStudyLaw : Type 0
SomeStudyLaw = (graph : ProcessGraph) (options : Options) (critical : Critical)
    → IsProcessGraph graph → AreOptions options
    → (study : Study) × IsStudyOf graph options critical study

-- a graph has at most one study, so a text made from the study is determined by the graph, the options and the critical values
abbrev pub OneStudyLaw : Type 0
OneStudyLaw = (graph : ProcessGraph) (options : Options) (critical : Critical) (one other : Study)
    → IsProcessGraph graph → IsStudyOf graph options critical one
    → IsStudyOf graph options critical other → one ≡ other
