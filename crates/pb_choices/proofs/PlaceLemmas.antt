-- Tables of values and the places of their words.
use Rattle.std.specs.Prelude.{slice_get}
use Rattle.std.proofs.Common.{◌≡◌, ◌∙◌, ◌<◌, ◌+◌, ℕ, zero, suc, Bool, true, false, List, [], ◌∷◌, length, Some, refl, sym, ap, arith}
use Rattle.pb_form.specs.Words.{class_words, shape_words, stop_words, verdict_words}
use Rattle.pb_form.specs.Writing.{IsFirst}
use Rattle.pb_graph.specs.declared.records.Class.{Class}
use Rattle.pb_graph.specs.declared.records.Class.TheVariants.{Observable, Unobservable, Redundant, Nonredundant}
use Rattle.pb_study.specs.declared.results.Stop.{Stop}
use Rattle.pb_study.specs.declared.results.Stop.TheVariants as stop
use Rattle.pb_study.specs.declared.results.Verdict.{Verdict}
use Rattle.pb_study.specs.declared.results.Verdict.TheVariants as verdict
use Rattle.pb_choices.specs.declared.places.Shape.{Shape}
use Rattle.pb_choices.specs.declared.places.Shape.TheVariants.{Cut, Cycle}
use Rattle.pb_choices.specs.Places.{IsWordTable, class_place, placed_class, placed_shape, placed_stop, placed_truth, placed_verdict, shape_place, stop_place, truth_place, verdict_place}

-- each value of a list has the place at which it is
abbrev pub AreInPlace : {A : Type 0} → (A → ℕ) → ℕ → List A → Type 0
AreInPlace place_of start [] = Unit {0}
AreInPlace place_of start (value ∷ values) = (place_of value ≡ start) × AreInPlace place_of (suc start) values

from_start : {A : Type 0} (place_of : A → ℕ) (values : List A) (start place : ℕ) (value : A) → AreInPlace place_of start values → slice_get values place ≡ Some value
    → place_of value ≡ start + place
from_start place_of [] start place value order at = cc at
from_start place_of (first ∷ values) start zero value order at =
    let same : first ≡ value = cc at in
    let here : place_of value ≡ start = ap place_of (sym same) ∙ order.0 in
    omega (arith, here)
from_start place_of (first ∷ values) start (suc place) value order at =
    let rest = from_start place_of values (suc start) place value order.1 at in
    omega (arith, rest)

-- so a value is only at its place
only_there : {A : Type 0} (place_of : A → ℕ) (values : List A) (place : ℕ) (value : A) → AreInPlace place_of 0 values → slice_get values place ≡ Some value → place_of value ≡ place
only_there place_of values place value order at = omega (arith, from_start place_of values 0 place value order at)

-- and at each place there is a value
some_there : {A : Type 0} (values : List A) (place : ℕ) → place < length values → (value : A) × (slice_get values place ≡ Some value)
some_there [] place lt = absurd (omega (arith, lt))
some_there (first ∷ values) zero lt = (first, refl)
some_there (first ∷ values) (suc place) lt = some_there values place (omega (arith, lt))

pub class_table : IsWordTable class_words class_place placed_class
class_table = record {
  there = there;
  only = λ place value at. only_there class_place classes place value (refl, (refl, (refl, (refl, tt)))) at;
  each = λ place lt. some_there classes place lt;
  word = word;
}
  where
    classes : List Class
    classes = Observable ∷ Unobservable ∷ Redundant ∷ Nonredundant ∷ []

    there : (class : Class) → placed_class (class_place class) ≡ Some class
    there Observable = refl
    there Unobservable = refl
    there Redundant = refl
    there Nonredundant = refl

    word : (class : Class) → IsFirst class_words (class_place class)
    word Observable = refl
    word Unobservable = refl
    word Redundant = refl
    word Nonredundant = refl

pub shape_table : IsWordTable shape_words shape_place placed_shape
shape_table = record {
  there = there;
  only = λ place value at. only_there shape_place (Cut ∷ Cycle ∷ []) place value (refl, (refl, tt)) at;
  each = λ place lt. some_there (Cut ∷ Cycle ∷ []) place lt;
  word = word;
}
  where
    there : (shape : Shape) → placed_shape (shape_place shape) ≡ Some shape
    there Cut = refl
    there Cycle = refl

    word : (shape : Shape) → IsFirst shape_words (shape_place shape)
    word Cut = refl
    word Cycle = refl

-- two words that differ, of which the first says that something holds
pub truth_table : (words : List (List ℕ)) → length words ≡ 2 → IsFirst words 0 → IsFirst words 1 → IsWordTable words truth_place placed_truth
truth_table words two first second = record {
  there = there;
  only = λ place value at. only_there truth_place (true ∷ false ∷ []) place value (refl, (refl, tt)) at;
  each = λ place lt. some_there (true ∷ false ∷ []) place (omega (arith, two, lt));
  word = word;
}
  where
    there : (holds : Bool) → placed_truth (truth_place holds) ≡ Some holds
    there true = refl
    there false = refl

    word : (holds : Bool) → IsFirst words (truth_place holds)
    word true = first
    word false = second

pub verdict_table : IsWordTable verdict_words verdict_place placed_verdict
verdict_table = record {
  there = there;
  only = λ place value at. only_there verdict_place verdicts place value (refl, (refl, (refl, (refl, (refl, tt))))) at;
  each = λ place lt. some_there verdicts place lt;
  word = word;
}
  where
    verdicts : List Verdict
    verdicts = verdict.Reject ∷ verdict.Accept ∷ verdict.Undecided ∷ verdict.NoCritical ∷ verdict.NoTest ∷ []

    there : (v : Verdict) → placed_verdict (verdict_place v) ≡ Some v
    there verdict.Reject = refl
    there verdict.Accept = refl
    there verdict.Undecided = refl
    there verdict.NoCritical = refl
    there verdict.NoTest = refl

    word : (v : Verdict) → IsFirst verdict_words (verdict_place v)
    word verdict.Reject = refl
    word verdict.Accept = refl
    word verdict.Undecided = refl
    word verdict.NoCritical = refl
    word verdict.NoTest = refl

pub stop_table : IsWordTable stop_words stop_place placed_stop
stop_table = record {
  there = there;
  only = λ place value at. only_there stop_place stops place value (refl, (refl, (refl, (refl, (refl, (refl, tt)))))) at;
  each = λ place lt. some_there stops place lt;
  word = word;
}
  where
    stops : List Stop
    stops = stop.Accepted ∷ stop.Undecided ∷ stop.NoCritical ∷ stop.NoTest ∷ stop.NoSuspect ∷ stop.Spent ∷ []

    there : (s : Stop) → placed_stop (stop_place s) ≡ Some s
    there stop.Accepted = refl
    there stop.Undecided = refl
    there stop.NoCritical = refl
    there stop.NoTest = refl
    there stop.NoSuspect = refl
    there stop.Spent = refl

    word : (s : Stop) → IsFirst stop_words (stop_place s)
    word stop.Accepted = refl
    word stop.Undecided = refl
    word stop.NoCritical = refl
    word stop.NoTest = refl
    word stop.NoSuspect = refl
    word stop.Spent = refl
