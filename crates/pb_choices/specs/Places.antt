-- Statement. The place of a value's word among the words of its column, and the value at a place: one table for each enum that is
-- printed in rows, used for writing and for reading.
use Rattle.std.specs.Prelude.{◌≡◌, ℕ, ◌<◌, Bool, true, false, List, [], ◌∷◌, length, Option, Some, slice_get}
use Rattle.pb_form.specs.Writing.{IsFirst}
use Rattle.pb_graph.specs.declared.records.Class.{Class}
use Rattle.pb_graph.specs.declared.records.Class.TheVariants.{Observable, Unobservable, Redundant, Nonredundant}
use Rattle.pb_graph.specs.declared.records.Witness as witness
use Rattle.pb_graph.specs.declared.records.Witness.TheVariants as certificate
use Rattle.pb_study.specs.declared.results.Solved.{Solved}
use Rattle.pb_study.specs.declared.results.Solved.TheVariants.{Converged, Unconverged}
use Rattle.pb_study.specs.declared.results.Stop.{Stop}
use Rattle.pb_study.specs.declared.results.Stop.TheVariants as stop
use Rattle.pb_study.specs.declared.results.Verdict.{Verdict}
use Rattle.pb_study.specs.declared.results.Verdict.TheVariants as verdict
use Rattle.pb_choices.specs.declared.places.Shape.{Shape}
use Rattle.pb_choices.specs.declared.places.Shape.TheVariants.{Cut, Cycle}

-- the classes of a stream
abbrev pub class_place : Class → ℕ
class_place Observable = 0
class_place Unobservable = 1
class_place Redundant = 2
class_place Nonredundant = 3

abbrev pub placed_class : ℕ → Option Class
placed_class place = slice_get (Observable ∷ Unobservable ∷ Redundant ∷ Nonredundant ∷ []) place

-- the shapes of a certificate
abbrev pub shape_place : Shape → ℕ
shape_place Cut = 0
shape_place Cycle = 1

abbrev pub placed_shape : ℕ → Option Shape
placed_shape place = slice_get (Cut ∷ Cycle ∷ []) place

-- the shape of a certificate
abbrev pub witness_shape : witness.Witness → Shape
witness_shape (certificate.Cut side members) = Cut
witness_shape (certificate.Cycle steps) = Cycle

-- something holds or doesn't: of two words, the first says that it holds
abbrev pub truth_place : Bool → ℕ
truth_place true = 0
truth_place false = 1

abbrev pub placed_truth : ℕ → Option Bool
placed_truth place = slice_get (true ∷ false ∷ []) place

-- the gap was met
abbrev pub gap_met : Solved → Bool
gap_met (Converged sweeps) = true
gap_met (Unconverged sweeps) = false

-- the verdicts of a test
abbrev pub verdict_place : Verdict → ℕ
verdict_place verdict.Reject = 0
verdict_place verdict.Accept = 1
verdict_place verdict.Undecided = 2
verdict_place verdict.NoCritical = 3
verdict_place verdict.NoTest = 4

abbrev pub placed_verdict : ℕ → Option Verdict
placed_verdict place =
    slice_get (verdict.Reject ∷ verdict.Accept ∷ verdict.Undecided ∷ verdict.NoCritical ∷ verdict.NoTest ∷ []) place

-- why the elimination stops
abbrev pub stop_place : Stop → ℕ
stop_place stop.Accepted = 0
stop_place stop.Undecided = 1
stop_place stop.NoCritical = 2
stop_place stop.NoTest = 3
stop_place stop.NoSuspect = 4
stop_place stop.Spent = 5

abbrev pub placed_stop : ℕ → Option Stop
placed_stop place =
    slice_get (stop.Accepted ∷ stop.Undecided ∷ stop.NoCritical ∷ stop.NoTest ∷ stop.NoSuspect ∷ stop.Spent ∷ []) place

-- Each value has a word at its place. It is at that place and at no other, each word belongs to a value, and no word appears twice.
pub record IsWordTable {A : Type 0} (words : List (List ℕ)) (place_of : A → ℕ) (placed : ℕ → Option A) : Type 0 where
  pub there : (value : A) → placed (place_of value) ≡ Some value
  pub only : (place : ℕ) (value : A) → placed place ≡ Some value → place_of value ≡ place
  pub each : (place : ℕ) → place < length words → (value : A) × (placed place ≡ Some value)
  pub word : (value : A) → IsFirst words (place_of value)
