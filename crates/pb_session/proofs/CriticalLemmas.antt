-- The critical values of a plant keep their limits.
use Rattle.std.proofs.Common.{List, [], ◌∷◌, Option, Some, None, slice_get}
use Rattle.std.specs.Prelude.{All, IfSome, filter_map}
use Rattle.std.specs.List.{AllByRecursion, cons_option}
use Rattle.std.proofs.lemmas.List.Elements.{All-from_recursion, recursion_from_All}
use Rattle.pb_limits.specs.Ranges.{IsCriticalValue}
use Rattle.pb_site.specs.declared.declared.Declared.{Declared}
use Rattle.pb_site.specs.declared.declared.Declared.TheVariants.{Version2, Boundary, Tank, Strap, Stream, CritGlobal, CritNodal, CritMeasure}
use Rattle.pb_site.specs.Row.{IsDeclaredInRange, measure_value, nodal_value}
use Rattle.pb_site.specs.Laws.{IsDeclaredPlant}
use Rattle.pb_study.specs.Criticals.{AreCritical, IsCriticalRow}
use Rattle.pb_session.specs.Criticals.{critical_row, declared_critical}

-- what `f` gives for a declaration in its range
abbrev Gives : {A : Type 0} → (Declared → Option A) → (A → Type 0) → Type 0
Gives f P = (declared : Declared) → IsDeclaredInRange declared → IfSome (f declared) P

put : {A : Type 0} (P : A → Type 0) (o : Option A) (xs : List A) → IfSome o P → AllByRecursion P xs → AllByRecursion P (cons_option o xs)
put P None xs is all = all
put P (Some x) xs is all = (is, all)

all_given : {A : Type 0} (f : Declared → Option A) (P : A → Type 0) → Gives f P → (declared : List Declared) → AllByRecursion IsDeclaredInRange declared → AllByRecursion P (filter_map f declared)
all_given f P gives [] all = tt
all_given f P gives (d ∷ declared) (here, all) = put P (f d) (filter_map f declared) (gives d here) (all_given f P gives declared all)

first : {A : Type 0} (P : A → Type 0) (xs : List A) → AllByRecursion P xs → IfSome (slice_get xs 0) P
first P [] all = tt
first P (x ∷ xs) (here, all) = here

gives_row : Gives critical_row IsCriticalRow
gives_row (CritGlobal dof value) (least, most, range) = range
gives_row Version2 is = tt
gives_row (Declared.Unit name) is = tt
gives_row (Boundary name) is = tt
gives_row (Tank name base service) is = tt
gives_row (Strap tank mm ml) is = tt
gives_row (Stream name from to kind base service) is = tt
gives_row (CritNodal value) is = tt
gives_row (CritMeasure value) is = tt

gives_nodal : Gives nodal_value IsCriticalValue
gives_nodal (CritNodal value) is = is
gives_nodal Version2 is = tt
gives_nodal (Declared.Unit name) is = tt
gives_nodal (Boundary name) is = tt
gives_nodal (Tank name base service) is = tt
gives_nodal (Strap tank mm ml) is = tt
gives_nodal (Stream name from to kind base service) is = tt
gives_nodal (CritGlobal dof value) is = tt
gives_nodal (CritMeasure value) is = tt

gives_measure : Gives measure_value IsCriticalValue
gives_measure (CritMeasure value) is = is
gives_measure Version2 is = tt
gives_measure (Declared.Unit name) is = tt
gives_measure (Boundary name) is = tt
gives_measure (Tank name base service) is = tt
gives_measure (Strap tank mm ml) is = tt
gives_measure (Stream name from to kind base service) is = tt
gives_measure (CritGlobal dof value) is = tt
gives_measure (CritNodal value) is = tt

pub critical_in_range : (declared : List Declared) → All (λ (d : Declared). IsDeclaredInRange d) declared → AreCritical (declared_critical declared)
critical_in_range declared ranges =
    let all = recursion_from_All IsDeclaredInRange declared ranges in
    record {
      rows = All-from_recursion IsCriticalRow (filter_map critical_row declared) (all_given critical_row IsCriticalRow gives_row declared all);
      nodal = first IsCriticalValue (filter_map nodal_value declared) (all_given nodal_value IsCriticalValue gives_nodal declared all);
      measure = first IsCriticalValue (filter_map measure_value declared) (all_given measure_value IsCriticalValue gives_measure declared all);
    }

pub critical_within : (declared : List Declared) → IsDeclaredPlant declared → AreCritical (declared_critical declared)
critical_within declared plant = critical_in_range declared plant.ranges
