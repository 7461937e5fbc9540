-- Statement. What is proved of component graphs, law by law.
use Rattle.std.specs.Prelude.{◌≡◌, ℕ, ◌+◌, ◌^◌, pos, ◌-ℤ◌, ◌*ℤ◌, ◌≤ℤ◌, ℤ, List, length, All, Option, IfSome, Ok, Err}
use Rattle.pb_study.specs.declared.results.StreamResult.{StreamResult}
use Rattle.pb_graph.specs.ProcessGraph.{ProcessGraph, IsProcessGraph}
use Rattle.pb_facts.specs.declared.grade.Grade.{Grade}
use Rattle.pb_grades.specs.declared.component.ComponentFault.TheVariants.{Over}
use Rattle.pb_facts.specs.Grade.{IsGrade}
use Rattle.pb_grades.specs.Grade.{carried_variance, grams_error, squared}
use Rattle.pb_grades.specs.Component.{IsComponentGraph, IsFirstOver, component_of}

-- the component graph is what its meaning says
abbrev pub ComponentLaw : Type 0
ComponentLaw = (graph component : ProcessGraph) (printed : List StreamResult) (grades : List (Option Grade))
    → length printed ≡ length graph.streams → length grades ≡ length graph.streams
    → component_of graph printed grades ≡ Ok component → IsComponentGraph graph printed grades component

-- the component graph of a process graph is a process graph
abbrev pub ComponentFormLaw : Type 0
ComponentFormLaw = (graph component : ProcessGraph) (printed : List StreamResult) (grades : List (Option Grade)) → IsProcessGraph graph
    → length printed ≡ length graph.streams → length grades ≡ length graph.streams → All (λ (grade : Option Grade). IfSome grade IsGrade) grades
    → component_of graph printed grades ≡ Ok component → IsProcessGraph component

-- the stream that is named as over the limits is the first one over the limits
abbrev pub FirstOverLaw : Type 0
FirstOverLaw = (graph : ProcessGraph) (printed : List StreamResult) (grades : List (Option Grade)) (j : ℕ)
    → component_of graph printed grades ≡ Err (Over j) → IsFirstOver printed grades j

-- What the variance covers: if the square of the error of a grade is at most k times its variance, the square of the error of the grams,
-- including their rounding, is at most k + 1 times theirs.
abbrev pub ErrorLaw : Type 0
ErrorLaw = (flow ppm : ℤ) (grade : Grade) (k : ℕ) → IsGrade grade
    → squared (ppm -ℤ grade.ppm) ≤ℤ (pos k *ℤ grade.variance)
    → squared (grams_error flow ppm grade) ≤ℤ (pos (k + 1) *ℤ (pos (10 ^ 12) *ℤ carried_variance flow grade))
