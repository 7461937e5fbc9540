-- Statement. The critical values that are handed over.
use Rattle.std.specs.Prelude.{ℤ, Bool, List, Option, Some, None, map, if◌then◌else◌}
use Rattle.pb_study.specs.declared.results.Critical.{Critical}
use Rattle.pb_study.specs.declared.results.CriticalRow.{CriticalRow}
use Rattle.pb_arrays.specs.declared.asked.PlantbalStudyOptions.{PlantbalStudyOptions}
use Rattle.pb_arrays.specs.declared.criticals.PlantbalCriticalRow.{PlantbalCriticalRow}

-- a value, if there is one
abbrev pub given_value : Bool → ℤ → Option ℤ
given_value there value = if there then Some value else None

-- a value of the global test
abbrev pub given_row : PlantbalCriticalRow → CriticalRow
given_row row = record { dof = row.dof; value = row.value }

-- the values of the global test, in order
abbrev pub given_rows : List PlantbalCriticalRow → List CriticalRow
given_rows rows = map given_row rows

-- the critical values
abbrev pub given_critical : PlantbalStudyOptions → List PlantbalCriticalRow → Critical
given_critical given rows = record {
  global = given_rows rows;
  nodal = given_value given.has_nodal given.nodal;
  measure = given_value given.has_measure given.measure;
}
