-- Inside. What a list of assays keeps beside them, so that look-ups don't walk through them.
use Rattle.std.specs.Prelude.{◌≡◌, ℕ, ◌≤◌, Bool, ◌&&◌, List, length, All}
use Rattle.std.specs.HashSet.{HashSet, contains}
use Rattle.std.specs.List.{list_any}
use Rattle.pb_rows.specs.Name.{same_name}
use Rattle.pb_facts.specs.declared.assays.Assay.{Assay}
use Rattle.pb_facts.specs.Assays.{AreUnlike, is_assay_of, is_assay_over, most_assays}
use Rattle.pb_facts.specs.Grade.{IsGrade}

-- two pairs of names are the same, and two pairs with a further name each
abbrev pub same_two : List ℕ × List ℕ → List ℕ × List ℕ → Bool
same_two a b = same_name a.0 b.0 && same_name a.1 b.1

abbrev pub same_three : (List ℕ × List ℕ) × List ℕ → (List ℕ × List ℕ) × List ℕ → Bool
same_three a b = same_two a.0 b.0 && same_name a.1 b.1

-- these are the components, periods and streams of the assays, and their components and periods; no two have all three in common,
-- each grade is within its limits, and so is the number of assays
pub record AreAssays {S T : Type 0} (assays : List Assay) (all : HashSet ((List ℕ × List ℕ) × List ℕ) S) (overs : HashSet (List ℕ × List ℕ) T) : Type 0 where
  pub each : (component period stream : List ℕ) → contains same_three all ((component, period), stream) ≡ list_any (is_assay_of component period stream) assays
  pub over : (component period : List ℕ) → contains same_two overs (component, period) ≡ list_any (is_assay_over component period) assays
  pub apart : AreUnlike assays
  pub grades : All (λ assay. IsGrade assay.grade) assays
  pub few : length assays ≤ most_assays
