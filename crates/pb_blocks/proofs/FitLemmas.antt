-- Values that fit their columns: numbers lie in their ranges.
use Rattle.std.specs.Prelude.{neg_ℤ, unsigned_abs, IfSome, slice_get}
use Rattle.std.specs.Option.{unwrap_or}
use Rattle.std.proofs.Common.{◌≡◌, ◌≤◌, ◌≤ℤ◌, ℕ, ℤ, zero, suc, pos, negsuc, Bool, true, List, [], ◌∷◌, Option, Some, None, codes, refl, arith}
use Rattle.std.proofs.lemmas.Int.{ints}
use Rattle.pb_limits.specs.Limits.{most_nodes, most_streams, most_value, most_variance}
use Rattle.pb_graph.specs.ProcessGraph.{IsMeasurement}
use Rattle.pb_form.specs.Columns.{Column}
use Rattle.pb_form.specs.Holds.{Number as NumberColumn}
use Rattle.pb_form.specs.OutputRows.{output_columns}
use Rattle.pb_form.specs.Value.{Value, Missing, Word, Name, Reason, Number, Date, Items}
use Rattle.pb_form.specs.Values.{number_in, value_at}
use Rattle.pb_form.specs.Writing.{FitEach, FitsColumn, FitsIn}
use Rattle.pb_form.specs.declared.output.OutputKind.{OutputKind}
use Rattle.pb_form.specs.declared.output.OutputKind.TheVariants.{Stream, StreamBefore}
use Rattle.pb_blocks.specs.Counts.{AreCounts, IsCountAt, IsStreamKind}
use Rattle.pb_blocks.specs.Laws.{LiesWithin}
use Rattle.pb_blocks.specs.Values.{both_meas}

-- each column has a value that fits it
fit_at : (columns : List Column) (values : List Value) (place : ℕ) (column : Column) → FitEach columns values → slice_get columns place ≡ Some column
    → (value : Value) × (slice_get values place ≡ Some value) × FitsColumn column value
fit_at [] values place column fit at = cc at
fit_at (first ∷ columns) [] place column fit at = absurd fit
fit_at (first ∷ columns) (value ∷ values) zero column fit at =
    let same : first ≡ column = cc in
    (value, refl, rw (← same) fit.0)
fit_at (first ∷ columns) (value ∷ values) (suc place) column fit at = fit_at columns values place column fit.1 at

-- a number that fits lies in its range
number_fits : (lo hi : ℤ) (optional : Bool) (value : Value) → FitsIn (NumberColumn lo hi) optional value → IfSome (number_in value) (LiesWithin lo hi)
number_fits lo hi optional Missing fits = tt
number_fits lo hi optional (Word place) fits = absurd fits
number_fits lo hi optional (Name text) fits = absurd fits
number_fits lo hi optional (Reason text) fits = absurd fits
number_fits lo hi optional (Number z) fits = fits
number_fits lo hi optional (Date day) fits = absurd fits
number_fits lo hi optional (Items text) fits = absurd fits

-- so the number at the place of a column of numbers does
pub number_between : (columns : List Column) (values : List Value) (place : ℕ) (key : List ℕ) (lo hi : ℤ) (optional : Bool) → FitEach columns values
    → slice_get columns place ≡ Some (record { key = key; holds = NumberColumn lo hi; optional = optional }) → IfSome (value_at number_in values place) (LiesWithin lo hi)
number_between columns values place key lo hi optional fit at =
    let found = fit_at columns values place (record { key = key; holds = NumberColumn lo hi; optional = optional }) fit at in
    rw (found.1) (number_fits lo hi optional found.0 found.2)

within_more : (lo hi bound : ℕ) (number : Option ℤ) → hi ≤ bound → IfSome number (LiesWithin (pos lo) (pos hi)) → IfSome number (LiesWithin (pos 0) (pos bound))
within_more lo hi bound None le h = tt
within_more lo hi bound (Some z) le h = (omega (arith, ints, h.0), omega (arith, ints, h.1, le))

-- and a count is one below a bound
pub count_at : (columns : List Column) (values : List Value) (place : ℕ) (key : List ℕ) (lo hi bound : ℕ) (optional : Bool) → FitEach columns values
    → slice_get columns place ≡ Some (record { key = key; holds = NumberColumn (pos lo) (pos hi); optional = optional }) → hi ≤ bound → IsCountAt bound values place
count_at columns values place key lo hi bound optional fit at le =
    within_more lo hi bound (value_at number_in values place) le (number_between columns values place key (pos lo) (pos hi) optional fit at)

-- the same for a number whose range was checked separately
pub counted : (lo hi bound : ℕ) (number : Option ℤ) → pos lo ≤ℤ unwrap_or number (pos 0) → unwrap_or number (pos 0) ≤ℤ pos hi → hi ≤ bound
    → IfSome number (LiesWithin (pos 0) (pos bound))
counted lo hi bound None least most le = tt
counted lo hi bound (Some z) least most le = (omega (arith, ints, least), omega (arith, ints, most, le))

-- counts of a graph's nodes and streams
pub counts_within : (nodes streams : ℤ) → AreCounts nodes streams → (1 ≤ unsigned_abs nodes) × (unsigned_abs nodes ≤ most_nodes) × (unsigned_abs streams ≤ most_streams)
counts_within (pos n) (pos s) counts = (omega (arith, ints, counts.env), omega (arith, ints, counts.few_nodes), omega (arith, ints, counts.few_streams))
counts_within (negsuc n) streams counts = absurd (omega (arith, ints, counts.env))
counts_within (pos n) (negsuc s) counts = absurd (omega (arith, ints, counts.natural))

-- ---- measurements

abs_within : (m : ℕ) (z : ℤ) → LiesWithin (neg_ℤ (pos m)) (pos m) z → unsigned_abs z ≤ m
abs_within m (pos n) h = omega (arith, ints, h.1)
abs_within m (negsuc n) h = omega (arith, ints, h.0)

pub meas_within : (value variance : Option ℤ) → IfSome value (LiesWithin (neg_ℤ (pos most_value)) (pos most_value)) → IfSome variance (LiesWithin (pos 1) (pos most_variance))
    → IfSome (both_meas value variance) IsMeasurement
meas_within None variance h k = tt
meas_within (Some value) None h k = tt
meas_within (Some value) (Some variance) h k = record { value = abs_within most_value value h; least = k.0; greatest = k.1 }

-- what was measured of a stream is a measurement
pub measured : (kind : OutputKind) (values : List Value) → IsStreamKind kind → FitEach (output_columns kind) values
    → IfSome (both_meas (value_at number_in values 4) (value_at number_in values 5)) IsMeasurement
measured Stream values is fit =
    meas_within (value_at number_in values 4) (value_at number_in values 5)
    (number_between (output_columns Stream) values 4 (codes "value") (neg_ℤ (pos most_value)) (pos most_value) true fit refl)
    (number_between (output_columns Stream) values 5 (codes "variance") (pos 1) (pos most_variance) true fit refl)
measured StreamBefore values is fit =
    meas_within (value_at number_in values 4) (value_at number_in values 5)
    (number_between (output_columns StreamBefore) values 4 (codes "value") (neg_ℤ (pos most_value)) (pos most_value) true fit refl)
    (number_between (output_columns StreamBefore) values 5 (codes "variance") (pos 1) (pos most_variance) true fit refl)
measured kind values is fit = absurd is
