-- Inside. The facts as the shelf stores them: each under its id, with the number of the name of its stream or tank.
use Rattle.std.specs.Prelude.{◌<◌, ◌≤◌, ℕ, ℤ, List, [], length, map, All, slice_index_or}
use Rattle.pb_limits.specs.Limits.{most_facts}
use Rattle.pb_facts.specs.declared.fact.Fact.{Fact}
use Rattle.pb_facts.specs.declared.fact.Fact.TheVariants.{Reading, Transfer, Dip}
use Rattle.pb_facts.specs.declared.facts.KeptFact.{KeptFact}
use Rattle.pb_facts.specs.declared.shelf.Told.{Told}
use Rattle.pb_facts.specs.declared.shelf.Entry.{Entry}

-- the name of the fact's stream or tank
abbrev pub stream_or_tank : Fact → List ℕ
stream_or_tank (Reading id stream day grams variance) = stream
stream_or_tank (Transfer id stream first last grams variance) = stream
stream_or_tank (Dip id tank day mm density variance) = tank

-- the fact with this id, of the stream or tank of this name, that says this
abbrev pub told_fact : List ℕ → List ℕ → ℤ → Told → Fact
told_fact id name variance (Told.Reading day grams) = Reading id name day grams variance
told_fact id name variance (Told.Transfer first last grams) = Transfer id name first last grams variance
told_fact id name variance (Told.Dip day mm density) = Dip id name day mm density variance

-- the fact of an id and an entry, whose number is the place of a name
abbrev pub kept_of : List (List ℕ) → List ℕ × Entry → KeptFact
kept_of names one = record {
  fact = told_fact one.0 (slice_index_or names one.1.name []) one.1.variance one.1.told;
  struck = one.1.struck;
}

-- the facts on a shelf, and the names of their streams and tanks, each at the place of its number
pub record Shelved : Type 0 where
  pub facts : List KeptFact
  pub names : List (List ℕ)

-- the facts of the ids and entries
abbrev pub kept_facts : List (List ℕ) → List (List ℕ × Entry) → List KeptFact
kept_facts names entries = map (kept_of names) entries

-- each entry has the number of a name, and there are no more names than facts, and no more facts than there may be
pub record IsShelf (names : List (List ℕ)) (entries : List (List ℕ × Entry)) : Type 0 where
  pub numbered : All (λ one. one.1.name < length names) entries
  pub few_names : length names ≤ length entries
  pub few : length entries ≤ most_facts
