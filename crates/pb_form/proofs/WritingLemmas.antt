-- A row of just the columns of a schema.
use Rattle.std.specs.Prelude.{◌&&◌, ◌==◌, ◌%◌, nat_le, Ok}
use Rattle.std.proofs.Common.{◌≡◌, ◌-◌, ℕ, Bool, true, false, List, [], ◌∷◌, length, refl, arith}
use Rattle.std.proofs.lemmas.Bool.{ne_eqb}
use Rattle.std.proofs.lemmas.Bool.Decides.{nat_tests}
use Rattle.pb_form.specs.Columns.{Column, Schema}
use Rattle.pb_form.specs.Reading.{are_turns, fields_read, has_count, row_read, tail_read}
use Rattle.pb_form.specs.Value.{Value}

pub whole_row : (schema : Schema) (row : List (List ℕ)) (values : List Value) → length row ≡ length schema.columns → fields_read schema.columns row ≡ Ok values
    → row_read schema row ≡ Ok values
whole_row schema row values count says =
    let none : length row - length schema.columns ≡ 0 = omega (arith, count) in
    let fits : has_count schema (length row) ≡ true = rw (none, count) (and_true (same_le (length schema.columns)) (no_turn schema.tail)) in
    let tail : tail_read schema row ≡ Ok [] = rw none refl in
    rw (fits, says, tail) refl
  where
    same_le : (n : ℕ) → nat_le n n ≡ true
    same_le n = grind (arith, nat_tests)

    no_turn : (tail : List Column) → are_turns tail 0 ≡ true
    no_turn [] = refl
    no_turn (column ∷ tail) =
        let some : (length (column ∷ tail) == 0) ≡ false = ne_eqb (length (column ∷ tail)) 0 (λ same. absurd (omega (arith, same))) in
        let none : 0 % length (column ∷ tail) ≡ 0 = grind arith in
        rw (some, none) refl

    and_true : {a b : Bool} → a ≡ true → b ≡ true → (a && b) ≡ true
    and_true p q = rw (p, q) refl
