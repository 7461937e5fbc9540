-- What stands at a place of values that fit the columns of their kind.
use Rattle.std.specs.Prelude.{◌&&◌, ◌^◌, ◌-◌, int_le, neg_ℤ, option_and_then, slice_get, Some, None, if◌then◌else◌}
use Rattle.std.proofs.Common.{◌≡◌, ◌∙◌, ◌+◌, ℕ, zero, suc, ℤ, pos, true, false, List, [], ◌∷◌, drop, refl, subst, sym, ap, arith}
use Rattle.std.proofs.lemmas.Bool.{and_parts}
use Rattle.std.proofs.lemmas.Int.{ints}
use Rattle.pb_rows.specs.Name.{is_name}
use Rattle.pb_rows.specs.Reason.{is_reason}
use Rattle.pb_form.specs.Columns.{Column}
use Rattle.pb_form.specs.Holds.{Holds}
use Rattle.pb_form.specs.Holds as holds
use Rattle.pb_form.specs.Value.{Value, Missing, Word, Name, Reason, Number, Date, Items}
use Rattle.pb_form.specs.Values.{day_in, name_in, number_in, reason_in}
use Rattle.pb_form.specs.Writing.{FitEach, FitsColumn, FitsIn}
use Rattle.pb_kinds.specs.There.{IsDayThere, IsLongThere, IsNameThere, IsNumberThere, IsReasonThere}

-- a column that takes no empty field
abbrev pub column_of : List ℕ → Holds → Column
column_of key takes = record { key = key; holds = takes; optional = false }

-- ---- one place

-- the value at a place fits the column at that place
fit_at : (columns : List Column) (values : List Value) (place : ℕ) (one : Column) → FitEach columns values → slice_get columns place ≡ Some one
    → (value : Value) × ((slice_get values place ≡ Some value) × FitsColumn one value)
fit_at [] values place one fit has = cc has
fit_at (first ∷ columns) [] place one fit has = absurd fit
fit_at (first ∷ columns) (value ∷ values) zero one fit has =
    let same : first ≡ one = cc has in
    (value, (refl, subst (λ (c : Column). FitsColumn c value) same fit.0))
fit_at (first ∷ columns) (value ∷ values) (suc place) one fit has = fit_at columns values place one fit.1 has

-- what stands at a place after others
after : (values : List Value) (at place sum : ℕ) → at + place ≡ sum → slice_get (drop at values) place ≡ slice_get values sum
after values zero place sum same =
    let here : place ≡ sum = omega (arith, same) in
    ap (slice_get values) here
after [] (suc at) place sum same = refl
after (value ∷ values) (suc at) place zero same = absurd (omega (arith, same))
after (value ∷ values) (suc at) place (suc sum) same = after values at place sum (omega (arith, same))

there : (columns : List Column) (values : List Value) (at place sum : ℕ) (one : Column) → FitEach columns (drop at values) → at + place ≡ sum → slice_get columns place ≡ Some one
    → (value : Value) × ((slice_get values sum ≡ Some value) × FitsColumn one value)
there columns values at place sum one fit same has =
    let it = fit_at columns (drop at values) place one fit has in
    (it.0, (sym (after values at place sum same) ∙ it.1.0, it.1.1))

-- ---- by what the column takes

of_name : (values : List Value) (place : ℕ) (value : Value) → slice_get values place ≡ Some value → FitsIn holds.Name false value → IsNameThere values place
of_name values place Missing at fit = cc fit
of_name values place (Word word) at fit = absurd fit
of_name values place (Name text) at fit =
    let reads : (if is_name text then Some text else None) ≡ Some text = rw fit refl in
    record { name = text; is = ap (option_and_then name_in) at ∙ reads; form = fit }
of_name values place (Reason text) at fit = absurd fit
of_name values place (Number z) at fit = absurd fit
of_name values place (Date day) at fit = absurd fit
of_name values place (Items text) at fit = absurd fit

of_reason : (values : List Value) (place : ℕ) (value : Value) → slice_get values place ≡ Some value → FitsIn holds.Reason false value → IsReasonThere values place
of_reason values place Missing at fit = cc fit
of_reason values place (Word word) at fit = absurd fit
of_reason values place (Name text) at fit = absurd fit
of_reason values place (Reason text) at fit =
    let reads : (if is_reason text then Some text else None) ≡ Some text = rw fit refl in
    record { reason = text; is = ap (option_and_then reason_in) at ∙ reads }
of_reason values place (Number z) at fit = absurd fit
of_reason values place (Date day) at fit = absurd fit
of_reason values place (Items text) at fit = absurd fit

of_number : (lo hi : ℤ) (values : List Value) (place : ℕ) (value : Value) → slice_get values place ≡ Some value → FitsIn (holds.Number lo hi) false value → IsNumberThere lo hi values place
of_number lo hi values place Missing at fit = cc fit
of_number lo hi values place (Word word) at fit = absurd fit
of_number lo hi values place (Name text) at fit = absurd fit
of_number lo hi values place (Reason text) at fit = absurd fit
of_number lo hi values place (Number z) at fit = record { number = z; is = ap (option_and_then number_in) at; least = fit.0; most = fit.1 }
of_number lo hi values place (Date day) at fit = absurd fit
of_number lo hi values place (Items text) at fit = absurd fit

of_day : (values : List Value) (place : ℕ) (value : Value) → slice_get values place ≡ Some value → FitsIn holds.Date false value → IsDayThere values place
of_day values place Missing at fit = cc fit
of_day values place (Word word) at fit = absurd fit
of_day values place (Name text) at fit = absurd fit
of_day values place (Reason text) at fit = absurd fit
of_day values place (Number z) at fit = absurd fit
of_day values place (Date day) at fit = record { day = day; is = ap (option_and_then day_in) at; range = fit }
of_day values place (Items text) at fit = absurd fit

-- ---- a name, a reason, a number and a day at a place of a table's columns

pub name_is : (columns : List Column) (values : List Value) (at place sum : ℕ) (key : List ℕ) → FitEach columns (drop at values) → at + place ≡ sum
    → slice_get columns place ≡ Some (column_of key holds.Name) → IsNameThere values sum
name_is columns values at place sum key fit same has =
    let it = there columns values at place sum (column_of key holds.Name) fit same has in
    of_name values sum it.0 it.1.0 it.1.1

pub reason_is : (columns : List Column) (values : List Value) (at place sum : ℕ) (key : List ℕ) → FitEach columns (drop at values) → at + place ≡ sum
    → slice_get columns place ≡ Some (column_of key holds.Reason) → IsReasonThere values sum
reason_is columns values at place sum key fit same has =
    let it = there columns values at place sum (column_of key holds.Reason) fit same has in
    of_reason values sum it.0 it.1.0 it.1.1

pub number_is : (columns : List Column) (values : List Value) (at place sum : ℕ) (key : List ℕ) (lo hi : ℤ) → FitEach columns (drop at values) → at + place ≡ sum
    → slice_get columns place ≡ Some (column_of key (holds.Number lo hi)) → IsNumberThere lo hi values sum
number_is columns values at place sum key lo hi fit same has =
    let it = there columns values at place sum (column_of key (holds.Number lo hi)) fit same has in
    of_number lo hi values sum it.0 it.1.0 it.1.1

pub day_is : (columns : List Column) (values : List Value) (at place sum : ℕ) (key : List ℕ) → FitEach columns (drop at values) → at + place ≡ sum
    → slice_get columns place ≡ Some (column_of key holds.Date) → IsDayThere values sum
day_is columns values at place sum key fit same has =
    let it = there columns values at place sum (column_of key holds.Date) fit same has in
    of_day values sum it.0 it.1.0 it.1.1

-- a number of 64 bits
pub long_is : (columns : List Column) (values : List Value) (at place sum : ℕ) (key : List ℕ) (lo hi : ℤ) → FitEach columns (drop at values) → at + place ≡ sum
    → slice_get columns place ≡ Some (column_of key (holds.Number lo hi)) → (int_le (neg_ℤ (pos (2 ^ 63))) lo && int_le hi (pos (2 ^ 63 - 1))) ≡ true → IsLongThere values sum
long_is columns values at place sum key lo hi fit same has narrow =
    let it = number_is columns values at place sum key lo hi fit same has in
    let tests = and_parts (int_le (neg_ℤ (pos (2 ^ 63))) lo) (int_le hi (pos (2 ^ 63 - 1))) narrow in
    record {
      number = it.number;
      is = it.is;
      least = omega (arith, ints, tests.0, it.least);
      most = omega (arith, ints, tests.1, it.most);
    }

-- ---- the columns after the words of a kind

pub fit_after : (n : ℕ) (columns : List Column) (values : List Value) → FitEach columns values → FitEach (drop n columns) (drop n values)
fit_after zero columns values fit = fit
fit_after (suc n) [] [] fit = tt
fit_after (suc n) [] (value ∷ values) fit = absurd fit
fit_after (suc n) (first ∷ columns) [] fit = absurd fit
fit_after (suc n) (first ∷ columns) (value ∷ values) fit = fit_after n columns values fit.1
