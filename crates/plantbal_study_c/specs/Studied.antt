-- Statement. The study of a graph that is handed over in arrays, and how much there is of it if there is none.
use Rattle.std.specs.Prelude.{◌≤◌, ℕ, List, All, length}
use Rattle.pb_limits.specs.Limits.{most_nodes, most_streams}
use Rattle.pb_study.specs.declared.results.Study.{Study}
use Rattle.pb_study.specs.Criticals.{AreCritical}
use Rattle.pb_study.specs.Options.{AreOptions}
use Rattle.pb_study.specs.WellFormed.{IsWellFormedStudy}
use Rattle.pb_stage.specs.Certified.{HasLeastThroughout, IsCertifiedStage, TestsEachRedundant}
use Rattle.pb_elim.specs.Decided.{AreMeasuresRight}
use Rattle.pb_elim.specs.Study.{IsStudyOf}
use Rattle.pb_arrays.specs.Given.{given_graph}
use Rattle.pb_arrays.specs.GivenCritical.{given_critical}
use Rattle.pb_arrays.specs.GivenOptions.{given_options}
use Rattle.pb_arrays.specs.declared.asked.PlantbalStudyOptions.{PlantbalStudyOptions}
use Rattle.pb_arrays.specs.declared.criticals.PlantbalCriticalRow.{PlantbalCriticalRow}
use Rattle.pb_arrays.specs.declared.graphs.PlantbalMeasuredStream.{PlantbalMeasuredStream}
use Rattle.pb_arrays.specs.declared.stages.PlantbalStudied.{PlantbalStudied}

-- A study of the graph of these streams, by these options and critical values; each of its stages is certified.
pub record Studies (given : PlantbalStudyOptions) (limits : List PlantbalCriticalRow) (nodes : ℕ)
    (streams : List PlantbalMeasuredStream) (made : Study) : Type 0 where
  pub study : IsStudyOf (given_graph nodes streams) (given_options given) (given_critical given limits) made
  pub certified : All IsCertifiedStage made.stages
  pub tested : All TestsEachRedundant made.stages
  pub least : All HasLeastThroughout made.stages
  pub decided : All AreMeasuresRight made.stages
  pub formed : IsWellFormedStudy (given_graph nodes streams) made

-- the options or the critical values aren't within their limits, or there are too few nodes, too many, or too many streams
abbrev pub IsNotStudied : PlantbalStudyOptions → List PlantbalCriticalRow → ℕ → List PlantbalMeasuredStream → Type 0
IsNotStudied given limits nodes streams =
    AreOptions (given_options given) → AreCritical (given_critical given limits) → 1 ≤ nodes → nodes ≤ most_nodes
    → length streams ≤ most_streams → ⊥

-- there is none of anything
abbrev pub no_studied : PlantbalStudied
no_studied = record { stages = 0; taken = 0; stop = 0 }
