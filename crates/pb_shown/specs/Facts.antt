-- Statement. A fact as C has it.
use Rattle.std.specs.Prelude.{◌≡◌, ℕ, ℤ, List, pos}
use Rattle.pb_facts.specs.declared.fact.Fact.{Fact}
use Rattle.pb_facts.specs.declared.fact.Fact.TheVariants.{Reading, Transfer, Dip}
use Rattle.pb_facts.specs.declared.facts.KeptFact.{KeptFact}
use Rattle.pb_facts.specs.Fact.{id_of, named_by}
use Rattle.pb_shown.specs.Texts.{padded_name}
use Rattle.pb_shown.specs.Wide.{value_of}
use Rattle.pb_shown.specs.declared.facts.PlantbalFact.{PlantbalFact}

-- the number of a fact's kind
abbrev pub fact_kind : Fact → ℕ
fact_kind (Reading id stream day grams variance) = 0
fact_kind (Transfer id stream first last grams variance) = 1
fact_kind (Dip id tank day mm density variance) = 2

-- its day or its first day
abbrev pub first_day : Fact → ℤ
first_day (Reading id stream day grams variance) = day
first_day (Transfer id stream first last grams variance) = first
first_day (Dip id tank day mm density variance) = day

-- its day or its last day
abbrev pub last_day : Fact → ℤ
last_day (Reading id stream day grams variance) = day
last_day (Transfer id stream first last grams variance) = last
last_day (Dip id tank day mm density variance) = day

-- its grams, or its level
abbrev pub booked_amount : Fact → ℤ
booked_amount (Reading id stream day grams variance) = grams
booked_amount (Transfer id stream first last grams variance) = grams
booked_amount (Dip id tank day mm density variance) = mm

-- the density of a dip, otherwise 0
abbrev pub booked_density : Fact → ℤ
booked_density (Reading id stream day grams variance) = pos 0
booked_density (Transfer id stream first last grams variance) = pos 0
booked_density (Dip id tank day mm density variance) = density

-- its variance
abbrev pub booked_variance : Fact → ℤ
booked_variance (Reading id stream day grams variance) = variance
booked_variance (Transfer id stream first last grams variance) = variance
booked_variance (Dip id tank day mm density variance) = variance

-- the struct says what the fact is
pub record ShowsFact (fact : Fact) (shown : PlantbalFact) : Type 0 where
  pub id : shown.id ≡ padded_name (id_of fact)
  pub stream : shown.stream ≡ padded_name (named_by fact)
  pub kind : shown.kind ≡ fact_kind fact
  pub first : shown.first ≡ first_day fact
  pub last : shown.last ≡ last_day fact
  pub amount : shown.amount ≡ booked_amount fact
  pub density : shown.density ≡ booked_density fact
  pub variance : value_of shown.variance ≡ booked_variance fact

-- and whether it was struck
abbrev pub ShowsKept : KeptFact → PlantbalFact → Type 0
ShowsKept kept shown = ShowsFact kept.fact shown × (shown.struck ≡ kept.struck)
