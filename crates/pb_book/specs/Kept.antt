-- Inside. What a book keeps beside its rows, so that look-ups don't walk through them.
use Rattle.std.specs.Prelude.{◌≡◌, ℕ, ◌≤◌, nat_eq, true, List, length, filter_map, slice_get, All, Option, Some, None, IsSome}
use Rattle.std.specs.HashMap.{HashMap, get as get_hashed}
use Rattle.std.specs.Option.{option_map, option_or}
use Rattle.pb_site.specs.declared.declared.Declared.{Declared}
use Rattle.pb_facts.specs.declared.fact.Fact.{Fact}
use Rattle.pb_facts.specs.declared.facts.KeptFact.{KeptFact}
use Rattle.pb_facts.specs.Facts.{is_live_with}
use Rattle.pb_facts.specs.declared.assays.Assay.{Assay}
use Rattle.pb_kinds.specs.declared.rows.Effect.{Effect}
use Rattle.pb_kinds.specs.declared.rows.Effect.TheVariants.{Declares, Opens, Books, Edits, Closes, Assays}
use Rattle.pb_book.specs.declared.rows.Edited.{Edited}
use Rattle.pb_book.specs.declared.rows.Part.{Part}
use Rattle.pb_book.specs.declared.rows.Part.TheVariants as part
use Rattle.pb_book.specs.declared.rows.Place.{Place}
use Rattle.pb_periods.specs.declared.period.Period.{Period}
use Rattle.pb_kinds.specs.declared.rows.StoredRow.{StoredRow}
use Rattle.pb_book.specs.Accepted.{AreAccepted}
use Rattle.pb_book.specs.Assays.{assays_of}
use Rattle.pb_book.specs.Edits.{edits_of}
use Rattle.pb_book.specs.Rows.{declared_of, facts_of, periods_of}

-- the fact at a place as it came: what was kept before its values first changed, or else what is kept now
abbrev pub told_at : {S : Type 0} → List KeptFact → HashMap ℕ Fact S → ℕ → Option Fact
told_at kept originals place =
    option_or (get_hashed nat_eq originals place) (option_map (λ (k : KeptFact). k.fact) (slice_get kept place))

-- the live fact of this id, if there is one, is kept as it came
abbrev pub HasOriginal : {S : Type 0} → List KeptFact → HashMap ℕ Fact S → List ℕ → Type 0
HasOriginal kept originals id =
    (place : ℕ) (k : KeptFact) → slice_get kept place ≡ Some k → is_live_with id k ≡ true
    → IsSome (get_hashed nat_eq originals place)

-- The form in which the stored rows are kept: the declarations, the facts at their places as they came, the periods, the edits of
-- facts, and the assays.
pub record Shelves : Type 0 where
  pub declared : List Declared
  pub told : ℕ → Option Fact
  pub spans : List Period
  pub edited : List Edited
  pub assays : List Assay

abbrev pub shelves_of : List Declared → (ℕ → Option Fact) → List Period → List Edited → List Assay → Shelves
shelves_of declared told spans edited assays =
    record { declared = declared; told = told; spans = spans; edited = edited; assays = assays }

-- what a row does that opens a period, closes it, or edits a fact
abbrev pub opening : Period → Effect
opening period = Opens period.name period.first period.last

abbrev pub closing : Period → Effect
closing period = Closes period.name

abbrev pub editing : Edited → Effect
editing edited = Edits edited.id edited.edit edited.reason

-- what the row at a place of a part does
abbrev pub effect_in : Shelves → Part → Option Effect
effect_in shelves (part.Declared i) = option_map (λ declared. Declares declared) (slice_get shelves.declared i)
effect_in shelves (part.Opened i) = option_map opening (slice_get shelves.spans i)
effect_in shelves (part.Booked i late) = option_map (λ fact. Books fact late) (shelves.told i)
effect_in shelves (part.Edited i) = option_map editing (slice_get shelves.edited i)
effect_in shelves (part.Closed i) = option_map closing (slice_get shelves.spans i)
effect_in shelves (part.Assayed i) = option_map (λ assay. Assays assay) (slice_get shelves.assays i)

-- the stored row at a place
abbrev pub row_at : Shelves → Place → Option StoredRow
row_at shelves place =
    option_map (λ effect. record { at = place.at; effect = effect }) (effect_in shelves place.part)

-- the stored rows at these places
abbrev pub rows_at : Shelves → List Place → List StoredRow
rows_at shelves places = filter_map (row_at shelves) places

-- each of these places has a row
abbrev pub ArePlaced : Shelves → List Place → Type 0
ArePlaced shelves places = All (λ place. IsSome (row_at shelves place)) places

-- the declarations, facts, periods and assays are those of the rows
pub record AreOf (rows : List StoredRow) (declared : List Declared) (kept : List KeptFact) (periods : List Period) (assays : List Assay) : Type 0 where
  pub site : declared ≡ declared_of rows
  pub facts : kept ≡ facts_of rows
  pub spans : periods ≡ periods_of rows
  pub assayed : assays ≡ assays_of rows

-- each place has a row, the rows were accepted, the declarations, facts, periods, assays and edits are theirs, and there is no fact
-- at a place after those of the kept facts
pub record IsKept (shelves : Shelves) (kept : List KeptFact) (places edits : List Place) : Type 0 where
  pub placed : ArePlaced shelves places
  pub parts : AreOf (rows_at shelves places) shelves.declared kept shelves.spans shelves.assays
  pub accepted : AreAccepted (rows_at shelves places)
  pub told : (place : ℕ) → length kept ≤ place → shelves.told place ≡ None
  pub edited : ArePlaced shelves edits
  pub edit_rows : rows_at shelves edits ≡ edits_of (rows_at shelves places)

-- what the row at a place does, if it declares something or a period, or gives an assay
abbrev pub settled_in : List Declared → List Period → List Assay → Part → Option Effect
settled_in declared periods assays (part.Declared i) = option_map (λ declared. Declares declared) (slice_get declared i)
settled_in declared periods assays (part.Opened i) = option_map opening (slice_get periods i)
settled_in declared periods assays (part.Assayed i) = option_map (λ assay. Assays assay) (slice_get assays i)
settled_in declared periods assays part = None

-- what the rows of this kind at these places do
abbrev pub settled_at : List Declared → List Period → List Assay → List Place → List Effect
settled_at declared periods assays places = filter_map (λ (place : Place). settled_in declared periods assays place.part) places
