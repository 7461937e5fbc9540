-- Statement. Records whose fields are already apart.
use Rattle.std.specs.Prelude.{ℕ, ◌≤◌, ◌-◌, List, [], ◌∷◌, length, take, drop}

-- the places are in order and within the bytes: the fields of a record end at these places, and the first begins at `from`
abbrev pub AreFieldEnds : List ℕ → ℕ → List ℕ → Type 0
AreFieldEnds bytes from [] = Unit
AreFieldEnds bytes from (end ∷ ends) = (from ≤ end) × (end ≤ length bytes) × AreFieldEnds bytes end ends

-- the fields between these places
abbrev pub fields_between : List ℕ → ℕ → List ℕ → List (List ℕ)
fields_between bytes from [] = []
fields_between bytes from (end ∷ ends) = take (end - from) (drop from bytes) ∷ fields_between bytes end ends

-- where the last of these fields ends, and what follows begins
abbrev pub last_end : ℕ → List ℕ → ℕ
last_end from [] = from
last_end from (end ∷ ends) = last_end end ends

-- the ends of a record's fields: those after the first fields, up to as many as `next` says
abbrev pub ends_of_record : List ℕ → ℕ → ℕ → List ℕ
ends_of_record ends first next = take (next - first) (drop first ends)

-- The counts are in order and within the ends: after each record there are as many ends as its count says, those of a record are in
-- order and within the bytes, and the first record begins at `from`, after the first ends.
abbrev pub AreRecordEnds : List ℕ → List ℕ → ℕ → ℕ → List ℕ → Type 0
AreRecordEnds bytes ends from first [] = Unit
AreRecordEnds bytes ends from first (next ∷ counts) =
    (first ≤ next) × (next ≤ length ends) × AreFieldEnds bytes from (ends_of_record ends first next)
    × AreRecordEnds bytes ends (last_end from (ends_of_record ends first next)) next counts

-- the records between these places
abbrev pub records_between : List ℕ → List ℕ → ℕ → ℕ → List ℕ → List (List (List ℕ))
records_between bytes ends from first [] = []
records_between bytes ends from first (next ∷ counts) =
    fields_between bytes from (ends_of_record ends first next)
    ∷ records_between bytes ends (last_end from (ends_of_record ends first next)) next counts
