-- Inside. Why there is no study.
use Rattle.std.specs.Prelude.{ℕ, List, slice_get, IsSomeAnd}
use Rattle.pb_arrays.specs.Given.{IsNoStream}
use Rattle.pb_arrays.specs.declared.asked.PlantbalStudyOptions.{PlantbalStudyOptions}
use Rattle.pb_arrays.specs.declared.criticals.PlantbalCriticalRow.{PlantbalCriticalRow}
use Rattle.pb_arrays.specs.declared.graphs.PlantbalMeasuredStream.{PlantbalMeasuredStream}
use Rattle.plantbal_study_c.specs.Studied.{IsNotStudied}
use Rattle.plantbal_study_c.specs.declared.studies.NotStudied.{NotStudied}
use Rattle.plantbal_study_c.specs.declared.studies.NotStudied.TheVariants as why

abbrev pub IsReason : PlantbalStudyOptions → List PlantbalCriticalRow → ℕ → List PlantbalMeasuredStream → NotStudied → Type 0
IsReason options limits nodes streams why.Usage = IsNotStudied options limits nodes streams
IsReason options limits nodes streams (why.Stream place) = IsSomeAnd (slice_get streams place) (IsNoStream nodes)
IsReason options limits nodes streams why.NoMemory = Unit {0}
