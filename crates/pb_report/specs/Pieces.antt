-- Inside. What stands before a piece of a list, and the parts of a certificate.
use Rattle.std.specs.Prelude.{ℕ, List, [], ◌∷◌, Bool, codes, if◌then◌else◌}
use Rattle.pb_rows.specs.declared.name.Names.{Names}
use Rattle.pb_graph.specs.declared.records.Witness.{Witness}
use Rattle.pb_graph.specs.declared.records.Witness.TheVariants.{Cut, Cycle}
use Rattle.pb_form.specs.Value.{Value, Word, Items}
use Rattle.pb_choices.specs.Places.{shape_place, witness_shape}
use Rattle.pb_report.specs.Certificate.{member_text, names_in, spaced, step_text}

-- a space, but nothing before the first piece
abbrev pub gap_before : Bool → List ℕ
gap_before first = if first then [] else codes " "

-- the nodes in a cut's side; nothing for a cycle
abbrev pub side_text : List (List ℕ) → Witness → List ℕ
side_text nodes (Cut side members) = spaced (λ name. name) (names_in side nodes)
side_text nodes (Cycle steps) = []

-- the members of a cut, or the steps of a cycle
abbrev pub parts_text : List (List ℕ) → Witness → List ℕ
parts_text streams (Cut side members) = spaced (member_text streams) members
parts_text streams (Cycle steps) = spaced (step_text streams) steps

-- the values of a certificate, each by the certificate
abbrev pub certificate_parts : Names → Witness → List Value
certificate_parts names witness =
    Word (shape_place (witness_shape witness)) ∷ Items (side_text names.nodes witness) ∷ Items (parts_text names.streams witness) ∷ []
