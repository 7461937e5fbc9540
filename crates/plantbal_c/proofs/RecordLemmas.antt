-- Records whose fields are apart, one after another.
use Rattle.std.proofs.Common.{◌≡◌, ◌∙◌, ℕ, ◌+◌, ◌<◌, List, ◌∷◌, length, drop, get_or, ap, sym, refl, subst}
use Rattle.std.proofs.lemmas.List.{drop_more}
use Rattle.plantbal_c.specs.Fields.{AreRecordEnds, ends_of_record, fields_between, last_end, records_between}
use Rattle.plantbal_c.proofs.BlockLemmas.{is_at}

-- the records that are left lie between the places that are left
pub record AreLeft (bytes ends counts : List ℕ) (i from first : ℕ) : Type 0 where
  pub left : drop i (records_between bytes ends 0 0 counts) ≡ records_between bytes ends from first (drop i counts)
  pub apart : AreRecordEnds bytes ends 0 0 counts → AreRecordEnds bytes ends from first (drop i counts)

pub none_taken : (bytes ends counts : List ℕ) → AreLeft bytes ends counts 0 0 0
none_taken bytes ends counts = record { left = refl; apart = λ are. are }

-- the next of them
pub next_left : (bytes ends counts : List ℕ) (i from first next : ℕ) → i < length counts → next ≡ get_or counts i 0 → AreLeft bytes ends counts i from first
    → drop i (records_between bytes ends 0 0 counts)
    ≡ fields_between bytes from (ends_of_record ends first next) ∷ records_between bytes ends (last_end from (ends_of_record ends first next)) next (drop (i + 1) counts)
next_left bytes ends counts i from first next lt is so_far =
    let more : drop i counts ≡ next ∷ drop (i + 1) counts = drop_more counts i 0 lt ∙ ap (λ (n : ℕ). n ∷ drop (i + 1) counts) (sym is) in
    so_far.left ∙ ap (records_between bytes ends from first) more

pub next_apart : (bytes ends counts : List ℕ) (i from first next : ℕ) → i < length counts → next ≡ get_or counts i 0 → AreLeft bytes ends counts i from first
    → AreRecordEnds bytes ends 0 0 counts → AreRecordEnds bytes ends from first (next ∷ drop (i + 1) counts)
next_apart bytes ends counts i from first next lt is so_far are =
    let more : drop i counts ≡ next ∷ drop (i + 1) counts = drop_more counts i 0 lt ∙ ap (λ (n : ℕ). n ∷ drop (i + 1) counts) (sym is) in
    subst (AreRecordEnds bytes ends from first) more (so_far.apart are)

pub one_taken : (bytes ends counts : List ℕ) (i from first next : ℕ) → i < length counts → next ≡ get_or counts i 0 → AreLeft bytes ends counts i from first
    → AreLeft bytes ends counts (i + 1) (last_end from (ends_of_record ends first next)) next
one_taken bytes ends counts i from first next lt is so_far =
    let rows = records_between bytes ends 0 0 counts in
    let row = fields_between bytes from (ends_of_record ends first next) in
    let rest = records_between bytes ends (last_end from (ends_of_record ends first next)) next (drop (i + 1) counts) in
    record {
      left = (is_at rows i row rest (next_left bytes ends counts i from first next lt is so_far)).behind;
      apart = λ are. (next_apart bytes ends counts i from first next lt is so_far are).3;
    }
