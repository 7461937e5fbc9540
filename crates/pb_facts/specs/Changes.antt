-- Statement. How an amendment changes the kept facts, what a strike removes, and the first fault of an amendment.
use Rattle.std.specs.Prelude.{◌&&◌, ℕ, List, map, Bool, true, false, not, Option, Some, None, if◌then◌else◌}
use Rattle.std.specs.List.{list_any}
use Rattle.pb_limits.specs.Ranges.{IsDensity, IsGrams, IsLevel, IsVariance}
use Rattle.pb_facts.specs.Facts.{has_id, is_live_with}
use Rattle.pb_facts.specs.declared.fact.Change.{Change}
use Rattle.pb_facts.specs.declared.fact.Change.TheVariants.{Amount, Level}
use Rattle.pb_facts.specs.declared.fact.Fact.{Fact}
use Rattle.pb_facts.specs.declared.fact.Fact.TheVariants.{Reading, Transfer, Dip}
use Rattle.pb_facts.specs.declared.fact.FactFault.{FactFault}
use Rattle.pb_facts.specs.declared.fact.FactFault.TheVariants.{Unknown, Mismatch}
use Rattle.pb_facts.specs.declared.facts.KeptFact.{KeptFact}

-- a level fits a dip, an amount fits a reading or a transfer
abbrev pub fits : Change → Fact → Bool
fits (Level mm density variance) (Dip id tank day old_mm old_density old_variance) = true
fits (Level mm density variance) fact = false
fits (Amount grams variance) (Dip id tank day mm density old_variance) = false
fits (Amount grams variance) fact = true

-- a fact with its values replaced by these: its id, its stream or tank and its days stay the same
abbrev pub changed : Change → Fact → Fact
changed (Amount grams variance) (Reading id stream day _ _) = Reading id stream day grams variance
changed (Amount grams variance) (Transfer id stream first last _ _) = Transfer id stream first last grams variance
changed (Level mm density variance) (Dip id tank day _ _ _) = Dip id tank day mm density variance
changed change fact = fact

-- the kept facts, with the values of the live fact with this id replaced by these
abbrev pub amended : List ℕ → Change → List KeptFact → List KeptFact
amended id change kept =
    map (λ (k : KeptFact). if is_live_with id k then record { fact = changed change k.fact; struck = false } else k) kept

-- the kept facts, with the fact with this id struck
abbrev pub struck : List ℕ → List KeptFact → List KeptFact
struck id kept = map (λ (k : KeptFact). if has_id id k then record { fact = k.fact; struck = true } else k) kept

-- a live fact with this id that a change doesn't fit
abbrev pub is_live_without : List ℕ → Change → KeptFact → Bool
is_live_without id change kept = is_live_with id kept && not (fits change kept.fact)

-- the first fault of an amendment: no live fact has the id, or the change is of a different kind from the fact
abbrev pub amend_fault_of : List KeptFact → List ℕ → Change → Option FactFault
amend_fault_of kept id change =
    if not (list_any (is_live_with id) kept) then Some Unknown
    else if list_any (is_live_without id change) kept then Some Mismatch
    else None

-- the numbers of a change lie in their ranges
abbrev pub IsChangeInRange : Change → Type 0
IsChangeInRange (Amount grams variance) = IsGrams grams × IsVariance variance
IsChangeInRange (Level mm density variance) = IsLevel mm × IsDensity density × IsVariance variance
