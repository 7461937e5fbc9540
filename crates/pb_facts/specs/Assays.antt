-- Statement. Assays: of which components the grade is known, in which streams and over which periods.
use Rattle.std.specs.Prelude.{◌≡◌, ℕ, Bool, false, ◌&&◌, List, AllPairs, find, Option}
use Rattle.std.specs.Option.{option_map}
use Rattle.pb_rows.specs.Name.{same_name}
use Rattle.pb_facts.specs.declared.assays.Assay.{Assay}
use Rattle.pb_facts.specs.declared.grade.Grade.{Grade}

-- the most assays that a book can have
abbrev pub most_assays : ℕ
most_assays = 20000

-- an assay is of this component over this period
abbrev pub is_assay_over : List ℕ → List ℕ → Assay → Bool
is_assay_over component period assay = same_name assay.component component && same_name assay.period period

-- and in this stream, or in what this tank gains
abbrev pub is_assay_of : List ℕ → List ℕ → List ℕ → Assay → Bool
is_assay_of component period stream assay = is_assay_over component period assay && same_name assay.stream stream

-- an assay has the same component, period and stream as another one
abbrev pub is_like : Assay → Assay → Bool
is_like assay = is_assay_of assay.component assay.period assay.stream

-- no two of these assays have the same component, period and stream
abbrev pub AreUnlike : List Assay → Type 0
AreUnlike assays = AllPairs (λ earlier later. is_like later earlier ≡ false) assays

-- the grade from the assay among these that is of this component, over this period and in this stream
abbrev pub grade_among : List Assay → List ℕ → List ℕ → List ℕ → Option Grade
grade_among assays component period stream =
    option_map (λ (assay : Assay). assay.grade) (find (is_assay_of component period stream) assays)
