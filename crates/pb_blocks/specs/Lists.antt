-- Statement. Lists in a field: the side of a cut, and the parts of a certificate.
use Rattle.std.specs.Prelude.{ℕ, ◌+◌, ◌==◌, pos, negsuc, Bool, true, ◌||◌, ◌&&◌, not, nat_le, List, [], ◌∷◌, map, drop, if◌then◌else◌, slice_index_or}
use Rattle.std.specs.List.{list_all, list_any, position_or_len, slice_split}
use Rattle.pb_rows.specs.Bytes.{dash}
use Rattle.pb_rows.specs.Name.{is_name, same_name}
use Rattle.pb_graph.specs.declared.records.Member.{Member}
use Rattle.pb_graph.specs.declared.records.Step.{Step}
use Rattle.pb_blocks.specs.Texts.{is_blank}

-- ` `, between the items of a list
abbrev pub space : ℕ
space = 32

-- `+`: a stream that enters the side, or is taken along its arrow; a stream that leaves the side, or is taken against its
-- arrow, has `-`
abbrev pub plus : ℕ
plus = 43

-- the items of a list: the pieces between single spaces; none in an empty field
abbrev pub items : List ℕ → List (List ℕ)
items text = if is_blank text then [] else slice_split (λ byte. byte == space) text

-- a name is one of these
abbrev pub is_among : List (List ℕ) → List ℕ → Bool
is_among names name = list_any (same_name name) names

-- no name occurs twice
abbrev pub differ : List (List ℕ) → Bool
differ [] = true
differ (name ∷ names) = not (is_among names name) && differ names

-- the place of a name among others
abbrev pub place_of : List (List ℕ) → List ℕ → ℕ
place_of names name = position_or_len (same_name name) names

-- places that rise strictly, the first of them at or above this one
abbrev pub rise_from : ℕ → List ℕ → Bool
rise_from least [] = true
rise_from least (place ∷ places) = nat_le least place && rise_from (place + 1) places

-- a side: names of nodes in the order of the nodes, none twice
abbrev pub is_side : List (List ℕ) → List (List ℕ) → Bool
is_side nodes names = list_all is_name names && rise_from 0 (map (place_of nodes) names)

-- a part whose sign is `+`
abbrev pub is_plus : List ℕ → Bool
is_plus part = slice_index_or part 0 0 == plus

-- the name in a part, after its sign
abbrev pub part_name : List ℕ → List ℕ
part_name part = drop 1 part

-- a part: a sign and a name
abbrev pub is_part : List ℕ → Bool
is_part part = (is_plus part || slice_index_or part 0 0 == dash) && is_name (part_name part)

-- a part as a member of a cut
abbrev pub member_of : List (List ℕ) → List ℕ → Member
member_of streams part = record {
  stream = place_of streams (part_name part);
  sign = if is_plus part then pos 1 else negsuc 0;
}

-- a part as a step of a cycle
abbrev pub step_of : List (List ℕ) → List ℕ → Step
step_of streams part = record { stream = place_of streams (part_name part); forward = is_plus part }
