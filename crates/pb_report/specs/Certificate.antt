-- Statement. A certificate as values of a row: its shape, its side and its parts.
use Rattle.std.specs.Prelude.{ℕ, pos, int_le, Bool, true, false, List, [], ◌∷◌, ◌++◌, codes, if◌then◌else◌}
use Rattle.std.specs.List.{join_by}
use Rattle.pb_rows.specs.declared.name.Names.{Names}
use Rattle.pb_graph.specs.declared.records.Member.{Member}
use Rattle.pb_graph.specs.declared.records.Step.{Step}
use Rattle.pb_graph.specs.declared.records.Witness.{Witness}
use Rattle.pb_graph.specs.declared.records.Witness.TheVariants.{Cut, Cycle}
use Rattle.pb_form.specs.Value.{Value, Word, Items}
use Rattle.pb_choices.specs.declared.places.Shape.TheVariants as shape
use Rattle.pb_choices.specs.Places.{shape_place}
use Rattle.pb_report.specs.Names.{name_at}

-- the names of the nodes in a side, in order of nodes
abbrev pub names_in : List Bool → List (List ℕ) → List (List ℕ)
names_in (true ∷ side) (name ∷ names) = name ∷ names_in side names
names_in (false ∷ side) (name ∷ names) = names_in side names
names_in side names = []

-- texts separated by one space
abbrev pub spaced : {A : Type 0} → (A → List ℕ) → List A → List ℕ
spaced piece items = join_by piece (codes " ") items

-- a part: `+` or `-`, and the name of a stream
abbrev pub part_text : List (List ℕ) → Bool → ℕ → List ℕ
part_text streams positive stream = (if positive then codes "+" else codes "-") ++ name_at streams stream

-- a member of a cut: `-` before a stream that leaves the side, `+` before one that enters it
abbrev pub member_text : List (List ℕ) → Member → List ℕ
member_text streams member = part_text streams (int_le (pos 0) member.sign) member.stream

-- a step of a cycle: `+` before a stream that is taken along its arrow, `-` before one that is taken against it
abbrev pub step_text : List (List ℕ) → Step → List ℕ
step_text streams step = part_text streams step.forward step.stream

-- the values of a certificate: the word of its shape, the nodes in the side of a cut and its members; or no node and the steps of a
-- cycle
abbrev pub certificate_values : Names → Witness → List Value
certificate_values names (Cut side members) =
    Word (shape_place shape.Cut) ∷ Items (spaced (λ name. name) (names_in side names.nodes))
    ∷ Items (spaced (member_text names.streams) members) ∷ []
certificate_values names (Cycle steps) =
    Word (shape_place shape.Cycle) ∷ Items [] ∷ Items (spaced (step_text names.streams) steps) ∷ []
