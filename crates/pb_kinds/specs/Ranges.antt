-- Statement. The ranges of the numbers and days of what a record asks to store.
use Rattle.pb_rows.specs.Date.{IsDay}
use Rattle.pb_site.specs.Row.{IsDeclaredInRange}
use Rattle.pb_facts.specs.Changes.{IsChangeInRange}
use Rattle.pb_facts.specs.Fact.{IsFactInRange}
use Rattle.pb_facts.specs.Grade.{IsGrade}
use Rattle.pb_kinds.specs.declared.rows.Edit.{Edit}
use Rattle.pb_kinds.specs.declared.rows.Edit.TheVariants.{Change, Strike}
use Rattle.pb_kinds.specs.declared.rows.Effect.{Effect}
use Rattle.pb_kinds.specs.declared.rows.Effect.TheVariants.{Declares, Opens, Books, Edits, Closes, Assays}
use Rattle.pb_kinds.specs.declared.rows.Request.{Request}
use Rattle.pb_kinds.specs.declared.rows.Request.TheVariants.{Store}

-- the new values of a fact lie in their ranges
abbrev pub IsEditInRange : Edit → Type 0
IsEditInRange (Change change) = IsChangeInRange change
IsEditInRange Strike = Unit {0}

-- The numbers and days of an effect lie in their ranges.
abbrev pub IsEffectInRange : Effect → Type 0
IsEffectInRange (Declares declared) = IsDeclaredInRange declared
IsEffectInRange (Opens name first last) = IsDay first × IsDay last
IsEffectInRange (Books fact late) = IsFactInRange fact
IsEffectInRange (Edits id edit reason) = IsEditInRange edit
IsEffectInRange (Closes name) = Unit {0}
IsEffectInRange (Assays assay) = IsGrade assay.grade

-- so do those of an effect that a record asks to store
abbrev pub IsRequestInRange : Request → Type 0
IsRequestInRange (Store effect) = IsEffectInRange effect
IsRequestInRange request = Unit {0}
