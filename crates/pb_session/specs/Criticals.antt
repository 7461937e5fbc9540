-- Statement. The critical values of the stored rows.
use Rattle.std.specs.Prelude.{List, filter_map, Option, Some, None}
use Rattle.pb_study.specs.declared.results.Critical.{Critical}
use Rattle.pb_study.specs.declared.results.CriticalRow.{CriticalRow}
use Rattle.pb_site.specs.declared.declared.Declared.{Declared}
use Rattle.pb_site.specs.declared.declared.Declared.TheVariants.{CritGlobal}
use Rattle.pb_site.specs.Site.{measure_of, nodal_of}
use Rattle.pb_kinds.specs.declared.rows.StoredRow.{StoredRow}
use Rattle.pb_book.specs.Rows.{declared_of}

-- the critical value of the global test that a declaration declares, with its degrees of freedom
abbrev pub critical_row : Declared → Option CriticalRow
critical_row (CritGlobal dof value) = Some (record { dof = dof; value = value })
critical_row declared = None

-- the declared critical values, those of the global test in order of declaration
abbrev pub declared_critical : List Declared → Critical
declared_critical declared = record {
  global = filter_map critical_row declared;
  nodal = nodal_of declared;
  measure = measure_of declared;
}

-- the critical values of the stored rows
abbrev pub critical_of : List StoredRow → Critical
critical_of rows = declared_critical (declared_of rows)
