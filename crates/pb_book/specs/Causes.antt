-- Inside. The first cause to refuse an edit of a live fact, what a change must not do, and parts of the first cause to refuse a fact.
use Rattle.std.specs.Prelude.{◌&&◌, ℕ, Bool, not, List, Option, Some, None, if◌then◌else◌}
use Rattle.pb_site.specs.declared.declared.Declared.{Declared}
use Rattle.pb_facts.specs.declared.fact.Change.{Change}
use Rattle.pb_facts.specs.declared.fact.Fact.{Fact}
use Rattle.pb_facts.specs.declared.facts.KeptFact.{KeptFact}
use Rattle.pb_facts.specs.Changes.{changed, fits}
use Rattle.pb_facts.specs.Facts.{is_duplicate_fact, is_live_with}
use Rattle.pb_kinds.specs.declared.rows.Edit.{Edit}
use Rattle.pb_kinds.specs.declared.rows.Edit.TheVariants as edits
use Rattle.pb_book.specs.declared.answer.Refused.{Refused}
use Rattle.pb_book.specs.declared.answer.Refused.TheVariants.{Unknown, Duplicate, Mismatch, Range, Full}
use Rattle.pb_book.specs.Refusals.{is_outside_table}

-- the first cause to refuse a change of a fact
abbrev pub cause_of_change : List Declared → Fact → Change → Option Refused
cause_of_change declared fact change =
    if not (fits change fact) then Some Mismatch
    else if is_outside_table declared (changed change fact) then Some Range
    else None

-- the same for an edit; there is no cause to refuse a strike
abbrev pub cause_of_edit : List Declared → Fact → Edit → Option Refused
cause_of_edit declared fact (edits.Change change) = cause_of_change declared fact change
cause_of_edit declared fact edits.Strike = None

-- a live fact of this id, which the change doesn't fit
abbrev pub is_misfit : List ℕ → Change → KeptFact → Bool
is_misfit id change kept = is_live_with id kept && not (fits change kept.fact)

-- a live fact of this id, which after the change would be a dip whose level is outside the table of its tank
abbrev pub is_moved_outside : List Declared → List ℕ → Change → KeptFact → Bool
is_moved_outside declared id change kept = is_live_with id kept && is_outside_table declared (changed change kept.fact)

-- the first cause to refuse a fact, given the first one as if there were no other facts
abbrev pub first_cause : Refused → List KeptFact → Fact → Refused
first_cause Unknown kept fact = Unknown
first_cause cause kept fact = if is_duplicate_fact kept fact then Duplicate else cause

-- the cause to refuse a fact that has a fault, if there is none as if there were no other facts
abbrev pub fault_cause : List KeptFact → Fact → Refused
fault_cause kept fact = if is_duplicate_fact kept fact then Duplicate else Full
