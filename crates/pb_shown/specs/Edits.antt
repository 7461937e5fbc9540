-- Statement. An edit of the book as C has it.
use Rattle.std.specs.Prelude.{◌≡◌, ℤ, [], ⊤, pos}
use Rattle.pb_facts.specs.declared.fact.Change.{Change}
use Rattle.pb_facts.specs.declared.fact.Change.TheVariants.{Amount, Level}
use Rattle.pb_facts.specs.declared.fact.Fact.{Fact}
use Rattle.pb_facts.specs.Fact.{id_of}
use Rattle.pb_kinds.specs.declared.rows.Edit.TheVariants as edits
use Rattle.pb_kinds.specs.declared.rows.Effect.{Effect}
use Rattle.pb_kinds.specs.declared.rows.Effect.TheVariants.{Books, Closes, Edits}
use Rattle.pb_kinds.specs.declared.rows.StoredRow.{StoredRow}
use Rattle.pb_shown.specs.Facts.{booked_amount, booked_density, booked_variance}
use Rattle.pb_shown.specs.Texts.{padded_name, padded_reason}
use Rattle.pb_shown.specs.Wide.{value_of}
use Rattle.pb_shown.specs.declared.edits.PlantbalEdit.{PlantbalEdit}
use Rattle.pb_shown.specs.declared.numbers.PlantbalWide.{PlantbalWide}

-- the values of a fact
abbrev pub ShowsFactValues : Fact → ℤ → ℤ → PlantbalWide → Type 0
ShowsFactValues fact amount density variance =
    (amount ≡ booked_amount fact) × (density ≡ booked_density fact) × (value_of variance ≡ booked_variance fact)

-- the new values of a fact
abbrev pub ShowsChange : Change → ℤ → ℤ → PlantbalWide → Type 0
ShowsChange (Amount grams new_variance) amount density variance =
    (amount ≡ grams) × (density ≡ pos 0) × (value_of variance ≡ new_variance)
ShowsChange (Level mm new_density new_variance) amount density variance =
    (amount ≡ mm) × (density ≡ new_density) × (value_of variance ≡ new_variance)

-- no values
abbrev pub ShowsNone : PlantbalEdit → Type 0
ShowsNone shown = (shown.amount ≡ pos 0) × (shown.density ≡ pos 0) × (value_of shown.variance ≡ pos 0)

-- no reason
abbrev pub ShowsNoReason : PlantbalEdit → Type 0
ShowsNoReason shown = shown.reason ≡ padded_reason []

-- the struct says what an edit does; what isn't an edit has no place among them
abbrev pub ShowsEffect : Effect → PlantbalEdit → Type 0
ShowsEffect (Closes name) shown =
    (shown.kind ≡ 0) × (shown.id ≡ padded_name name) × ShowsNoReason shown × ShowsNone shown
ShowsEffect (Books fact late) shown =
    (shown.kind ≡ 1) × (shown.id ≡ padded_name (id_of fact)) × ShowsNoReason shown
    × ShowsFactValues fact shown.amount shown.density shown.variance
ShowsEffect (Edits id (edits.Change change) reason) shown =
    (shown.kind ≡ 2) × (shown.id ≡ padded_name id) × (shown.reason ≡ padded_reason reason)
    × ShowsChange change shown.amount shown.density shown.variance
ShowsEffect (Edits id edits.Strike reason) shown =
    (shown.kind ≡ 3) × (shown.id ≡ padded_name id) × (shown.reason ≡ padded_reason reason) × ShowsNone shown
ShowsEffect effect shown = ⊤

-- and which record it was
abbrev pub ShowsEdit : StoredRow → PlantbalEdit → Type 0
ShowsEdit stored shown = (shown.record ≡ stored.at) × ShowsEffect stored.effect shown
