-- What values that fit the columns of a kind ask for lies in its ranges, and has names of the form.
use Rattle.std.specs.Prelude.{◌≤ℤ◌, neg_ℤ, slice_get, Some, unsigned_abs}
use Rattle.std.specs.List.{list_all}
use Rattle.std.proofs.Common.{◌≡◌, ◌≤◌, ◌+◌, ℕ, ℤ, pos, true, List, [], ◌∷◌, drop, refl, arith}
use Rattle.std.proofs.lemmas.Int.{ints}
use Rattle.pb_limits.specs.Limits.{most_grams, most_freedom}
use Rattle.pb_limits.specs.Ranges.{IsGrams}
use Rattle.pb_rows.specs.Date.{IsDay}
use Rattle.pb_rows.specs.Name.{is_name}
use Rattle.pb_site.specs.Service.{IsService}
use Rattle.pb_facts.specs.Fact.{IsFactInRange}
use Rattle.pb_form.specs.Columns.{Column}
use Rattle.pb_form.specs.Holds as holds
use Rattle.pb_form.specs.SessionRows.{dip_columns, reading_columns, session_columns, transfer_columns}
use Rattle.pb_form.specs.Value.{Value}
use Rattle.pb_form.specs.Writing.{FitEach}
use Rattle.pb_form.specs.declared.session.SessionKind.{SessionKind}
use Rattle.pb_form.specs.declared.session.SessionKind.TheVariants as kind
use Rattle.pb_kinds.specs.declared.rows.Request.{Request}
use Rattle.pb_kinds.specs.declared.rows.Request.TheVariants.{Store}
use Rattle.pb_kinds.specs.Effects.{effect_names}
use Rattle.pb_kinds.specs.Ranges.{IsRequestInRange}
use Rattle.pb_kinds.specs.Requests.{day_there, dip_from, name_there, reading_from, request_of, service_from, transfer_from}
use Rattle.pb_form.specs.Values.{number_at}
use Rattle.pb_kinds.proofs.ThereLemmas.{day_is, fit_after, name_is, number_is, column_of}

-- ---- by the column at a place

between : (columns : List Column) (values : List Value) (at place sum : ℕ) (key : List ℕ) (lo hi : ℤ) → FitEach columns (drop at values) → at + place ≡ sum
    → slice_get columns place ≡ Some (column_of key (holds.Number lo hi)) → (lo ≤ℤ number_at values sum) × (number_at values sum ≤ℤ hi)
between columns values at place sum key lo hi fit same has =
    let it = number_is columns values at place sum key lo hi fit same has in
    rw it.is (it.least, it.most)

grams : (columns : List Column) (values : List Value) (at place sum : ℕ) (key : List ℕ) → FitEach columns (drop at values) → at + place ≡ sum
    → slice_get columns place ≡ Some (column_of key (holds.Number (neg_ℤ (pos most_grams)) (pos most_grams))) → IsGrams (number_at values sum)
grams columns values at place sum key fit same has =
    let is = between columns values at place sum key (neg_ℤ (pos most_grams)) (pos most_grams) fit same has in
    omega (arith, ints, is.0, is.1)

day : (columns : List Column) (values : List Value) (at place sum : ℕ) (key : List ℕ) → FitEach columns (drop at values) → at + place ≡ sum
    → slice_get columns place ≡ Some (column_of key holds.Date) → IsDay (day_there values sum)
day columns values at place sum key fit same has =
    let it = day_is columns values at place sum key fit same has in
    rw it.is it.range

named : (columns : List Column) (values : List Value) (at place sum : ℕ) (key : List ℕ) → FitEach columns (drop at values) → at + place ≡ sum
    → slice_get columns place ≡ Some (column_of key holds.Name) → is_name (name_there values sum) ≡ true
named columns values at place sum key fit same has =
    let it = name_is columns values at place sum key fit same has in
    rw it.is it.form

service : (columns : List Column) (values : List Value) (at : ℕ) (since until : List ℕ) → FitEach columns values → slice_get columns at ≡ Some (column_of since holds.Date)
    → slice_get columns (at + 1) ≡ Some (column_of until holds.Date) → IsService (service_from values at)
service columns values at since until fit begins ends = record {
  since = day columns values 0 at at since fit (omega arith) begins;
  until = day columns values 0 (at + 1) (at + 1) until fit (omega arith) ends;
}

-- no variance
zero_is : (z : ℤ) → (pos 0 ≤ℤ z) × (z ≤ℤ pos 0) → z ≡ pos 0
zero_is z is = omega (arith, ints, is.0, is.1)

-- degrees of freedom
freedom : (z : ℤ) → (pos 1 ≤ℤ z) × (z ≤ℤ pos most_freedom) → (1 ≤ unsigned_abs z) × (unsigned_abs z ≤ most_freedom)
freedom z is = (omega (arith, ints, is.0), omega (arith, ints, is.0, is.1))

-- ---- facts

reading_in_range : (values : List Value) (at : ℕ) → FitEach reading_columns (drop at values) → IsFactInRange (reading_from values at)
reading_in_range values at fit = (
  day reading_columns values at 2 (at + 2) _ fit refl refl,
  grams reading_columns values at 3 (at + 3) _ fit refl refl,
  between reading_columns values at 4 (at + 4) _ _ _ fit refl refl,
)

transfer_in_range : (values : List Value) (at : ℕ) → FitEach transfer_columns (drop at values) → IsFactInRange (transfer_from values at)
transfer_in_range values at fit = (
  day transfer_columns values at 2 (at + 2) _ fit refl refl,
  day transfer_columns values at 3 (at + 3) _ fit refl refl,
  grams transfer_columns values at 4 (at + 4) _ fit refl refl,
  between transfer_columns values at 5 (at + 5) _ _ _ fit refl refl,
)

dip_in_range : (values : List Value) (at : ℕ) → FitEach dip_columns (drop at values) → IsFactInRange (dip_from values at)
dip_in_range values at fit = (
  day dip_columns values at 2 (at + 2) _ fit refl refl,
  between dip_columns values at 3 (at + 3) _ _ _ fit refl refl,
  between dip_columns values at 4 (at + 4) _ _ _ fit refl refl,
  between dip_columns values at 5 (at + 5) _ _ _ fit refl refl,
)

-- ---- what a row of a kind asks for

pub asked_in_range : (it : SessionKind) (values : List Value) → FitEach (session_columns it) values → IsRequestInRange (request_of it values)
asked_in_range kind.TankInService values fit = (
  between (session_columns kind.TankInService) values 0 2 2 _ _ _ fit refl refl,
  service (session_columns kind.TankInService) values 3 _ _ fit refl refl,
)
asked_in_range kind.MeteredInService values fit = (
  between (session_columns kind.MeteredInService) values 0 5 5 _ _ _ fit refl refl,
  service (session_columns kind.MeteredInService) values 6 _ _ fit refl refl,
)
asked_in_range kind.BatchInService values fit = (
  between (session_columns kind.BatchInService) values 0 5 5 _ _ _ fit refl refl,
  service (session_columns kind.BatchInService) values 6 _ _ fit refl refl,
)
asked_in_range kind.PlainInService values fit = (
  zero_is (number_at values 5) (between (session_columns kind.PlainInService) values 0 5 5 _ _ _ fit refl refl),
  service (session_columns kind.PlainInService) values 6 _ _ fit refl refl,
)
asked_in_range kind.Tank values fit = (between (session_columns kind.Tank) values 0 2 2 _ _ _ fit refl refl, tt)
asked_in_range kind.Strap values fit = (
  between (session_columns kind.Strap) values 0 2 2 _ _ _ fit refl refl,
  between (session_columns kind.Strap) values 0 3 3 _ _ _ fit refl refl,
)
asked_in_range kind.StreamMetered values fit = (between (session_columns kind.StreamMetered) values 0 5 5 _ _ _ fit refl refl, tt)
asked_in_range kind.StreamBatch values fit = (between (session_columns kind.StreamBatch) values 0 5 5 _ _ _ fit refl refl, tt)
asked_in_range kind.StreamPlain values fit =
    (zero_is (number_at values 5) (between (session_columns kind.StreamPlain) values 0 5 5 _ _ _ fit refl refl), tt)
asked_in_range kind.Period values fit = (
  day (session_columns kind.Period) values 0 2 2 _ fit refl refl,
  day (session_columns kind.Period) values 0 3 3 _ fit refl refl,
)
asked_in_range kind.CriticalGlobal values fit =
    let dof = freedom (number_at values 2) (between (session_columns kind.CriticalGlobal) values 0 2 2 _ _ _ fit refl refl) in
    (dof.0, dof.1, between (session_columns kind.CriticalGlobal) values 0 3 3 _ _ _ fit refl refl)
asked_in_range kind.CriticalNodal values fit = between (session_columns kind.CriticalNodal) values 0 2 2 _ _ _ fit refl refl
asked_in_range kind.CriticalMeasure values fit = between (session_columns kind.CriticalMeasure) values 0 2 2 _ _ _ fit refl refl
asked_in_range kind.Reading values fit = reading_in_range values 1 (fit_after 1 (session_columns kind.Reading) values fit)
asked_in_range kind.Transfer values fit = transfer_in_range values 1 (fit_after 1 (session_columns kind.Transfer) values fit)
asked_in_range kind.Dip values fit = dip_in_range values 1 (fit_after 1 (session_columns kind.Dip) values fit)
asked_in_range kind.LateReading values fit = reading_in_range values 2 (fit_after 2 (session_columns kind.LateReading) values fit)
asked_in_range kind.LateTransfer values fit = transfer_in_range values 2 (fit_after 2 (session_columns kind.LateTransfer) values fit)
asked_in_range kind.LateDip values fit = dip_in_range values 2 (fit_after 2 (session_columns kind.LateDip) values fit)
asked_in_range kind.AmendAmount values fit = (
  grams (session_columns kind.AmendAmount) values 0 2 2 _ fit refl refl,
  between (session_columns kind.AmendAmount) values 0 3 3 _ _ _ fit refl refl,
)
asked_in_range kind.AmendLevel values fit = (
  between (session_columns kind.AmendLevel) values 0 2 2 _ _ _ fit refl refl,
  between (session_columns kind.AmendLevel) values 0 3 3 _ _ _ fit refl refl,
  between (session_columns kind.AmendLevel) values 0 4 4 _ _ _ fit refl refl,
)
asked_in_range kind.Assay values fit =
    let ppm = between (session_columns kind.Assay) values 0 4 4 _ _ _ fit refl refl in
    let variance = between (session_columns kind.Assay) values 0 5 5 _ _ _ fit refl refl in
    record { least = ppm.0; most = ppm.1; exact = variance.0; widest = variance.1 }
asked_in_range it values fit = tt

-- ---- names

-- the names in what a record asks to store
abbrev pub stored_names : Request → List (List ℕ)
stored_names (Store effect) = effect_names effect
stored_names request = []

one_name : (a : List ℕ) → is_name a ≡ true → list_all is_name (a ∷ []) ≡ true
one_name a is = rw is refl

two_names : (a b : List ℕ) → is_name a ≡ true → is_name b ≡ true → list_all is_name (a ∷ (b ∷ [])) ≡ true
two_names a b is other = rw (is, other) refl

three_names : (a b c : List ℕ) → is_name a ≡ true → is_name b ≡ true → is_name c ≡ true → list_all is_name (a ∷ (b ∷ (c ∷ []))) ≡ true
three_names a b c is other third = rw (is, other, third) refl

name_one : (columns : List Column) (values : List Value) (key : List ℕ) → FitEach columns values → slice_get columns 1 ≡ Some (column_of key holds.Name)
    → list_all is_name (name_there values 1 ∷ []) ≡ true
name_one columns values key fit has = one_name (name_there values 1) (named columns values 0 1 1 key fit refl has)

three_from_one : (columns : List Column) (values : List Value) (name from to : List ℕ) → FitEach columns values → slice_get columns 1 ≡ Some (column_of name holds.Name)
    → slice_get columns 2 ≡ Some (column_of from holds.Name) → slice_get columns 3 ≡ Some (column_of to holds.Name)
    → list_all is_name (name_there values 1 ∷ (name_there values 2 ∷ (name_there values 3 ∷ []))) ≡ true
three_from_one columns values name from to fit a b c =
    three_names (name_there values 1) (name_there values 2) (name_there values 3) (named columns values 0 1 1 name fit refl a) (named columns values 0 2 2 from fit refl b) (named columns values 0 3 3 to fit refl c)

names_from : (columns : List Column) (values : List Value) (at : ℕ) (id of : List ℕ) → FitEach columns (drop at values) → slice_get columns 0 ≡ Some (column_of id holds.Name)
    → slice_get columns 1 ≡ Some (column_of of holds.Name) → list_all is_name (name_there values at ∷ (name_there values (at + 1) ∷ [])) ≡ true
names_from columns values at id of fit a b =
    two_names (name_there values at) (name_there values (at + 1)) (named columns values at 0 at id fit (omega arith) a) (named columns values at 1 (at + 1) of fit refl b)

pub asked_named : (it : SessionKind) (values : List Value) → FitEach (session_columns it) values → list_all is_name (stored_names (request_of it values)) ≡ true
asked_named kind.Boundary values fit = name_one (session_columns kind.Boundary) values _ fit refl
asked_named kind.TankInService values fit = name_one (session_columns kind.TankInService) values _ fit refl
asked_named kind.MeteredInService values fit = three_from_one (session_columns kind.MeteredInService) values _ _ _ fit refl refl refl
asked_named kind.BatchInService values fit = three_from_one (session_columns kind.BatchInService) values _ _ _ fit refl refl refl
asked_named kind.PlainInService values fit = three_from_one (session_columns kind.PlainInService) values _ _ _ fit refl refl refl
asked_named kind.Unit values fit = name_one (session_columns kind.Unit) values _ fit refl
asked_named kind.Tank values fit = name_one (session_columns kind.Tank) values _ fit refl
asked_named kind.Strap values fit = name_one (session_columns kind.Strap) values _ fit refl
asked_named kind.StreamMetered values fit = three_from_one (session_columns kind.StreamMetered) values _ _ _ fit refl refl refl
asked_named kind.StreamBatch values fit = three_from_one (session_columns kind.StreamBatch) values _ _ _ fit refl refl refl
asked_named kind.StreamPlain values fit = three_from_one (session_columns kind.StreamPlain) values _ _ _ fit refl refl refl
asked_named kind.Period values fit = name_one (session_columns kind.Period) values _ fit refl
asked_named kind.Reading values fit = names_from reading_columns values 1 _ _ (fit_after 1 (session_columns kind.Reading) values fit) refl refl
asked_named kind.Transfer values fit = names_from transfer_columns values 1 _ _ (fit_after 1 (session_columns kind.Transfer) values fit) refl refl
asked_named kind.Dip values fit = names_from dip_columns values 1 _ _ (fit_after 1 (session_columns kind.Dip) values fit) refl refl
asked_named kind.LateReading values fit = names_from reading_columns values 2 _ _ (fit_after 2 (session_columns kind.LateReading) values fit) refl refl
asked_named kind.LateTransfer values fit = names_from transfer_columns values 2 _ _ (fit_after 2 (session_columns kind.LateTransfer) values fit) refl refl
asked_named kind.LateDip values fit = names_from dip_columns values 2 _ _ (fit_after 2 (session_columns kind.LateDip) values fit) refl refl
asked_named kind.AmendAmount values fit = name_one (session_columns kind.AmendAmount) values _ fit refl
asked_named kind.AmendLevel values fit = name_one (session_columns kind.AmendLevel) values _ fit refl
asked_named kind.Strike values fit = name_one (session_columns kind.Strike) values _ fit refl
asked_named kind.Close values fit = name_one (session_columns kind.Close) values _ fit refl
asked_named kind.Assay values fit = three_from_one (session_columns kind.Assay) values _ _ _ fit refl refl refl
asked_named it values fit = refl
