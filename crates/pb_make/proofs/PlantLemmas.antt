-- The bounds of the streams of a made plant.
use Rattle.std.proofs.Common.{◌≡◌, ◌≢◌, ◌∙◌, ℕ, zero, suc, ◌+◌, ◌*◌, ◌<◌, ◌≤◌, ◌%◌, ℤ, pos, List, [], ◌∷◌, ◌++◌, length, take, get_or, All, Bool, true, false, unsigned_abs, length-append, refl, sym, ap, ap₂, arith, inl, inr}
use Rattle.std.specs.Prelude.{◌≤ℤ◌, ◌-◌, ◌==◌, map, neg_ℤ, ◌+ℤ◌, if◌then◌else◌}
use Rattle.std.specs.List.{AllByRecursion, range_with_len}
use Rattle.std.proofs.lemmas.Bool.{cases_Bool, eqb-true, eqb-false}
use Rattle.std.proofs.lemmas.Int.{ints}
use Rattle.std.proofs.lemmas.List.Elements.{All-append, All-from_recursion, All-same, All-weaker, recursion_from_All}
use Rattle.std.proofs.lemmas.List.FromFn.{length-map-range_with_len}
use Rattle.pb_limits.specs.Limits.{most_made_streams}
use Rattle.pb_fixed.specs.Sums.{sum_over}
use Rattle.pb_fixed.proofs.Sums.{sum_over-bound, sum_over-take_more}
use Rattle.pb_make.specs.declared.plant.MadeStream.{MadeStream}
use Rattle.pb_make.specs.Bounds.{IsMade, IsSide, most_side_grams}
use Rattle.pb_make.specs.Plant.{added_to, leads_back, least_streams, line_grams, line_stream, made_streams, passes_by, side_at, sides_of, units_of}
use Rattle.pb_make.proofs.Abbreviations.{side_by, end_from, line_streams, line_truth, side_streams}

-- ---- side streams

-- a remainder is below the divisor
below : (a b : ℕ) → 1 ≤ b → a % b < b
below a b some = omega (arith, some)

-- the node that a side stream leads to
end_is : (units from to : ℕ) → 1 ≤ from → to ≤ units → (end_from from to ≤ units) × (from ≢ end_from from to)
end_is units from to some few = elim (cases_Bool (to == from)) [
  | inl same ↦ rw same (omega (arith, some, few), λ e. absurd (omega (arith, e, some)))
  | inr other ↦ rw other (few, λ e. eqb-false to from other (sym e))
]

pub side_fits : (units first second third : ℕ) → 1 ≤ units → IsSide units (side_by units first second third)
side_fits units first second third some =
    let begins = below first units some in
    let ends = below second (units + 1) (omega (arith, some)) in
    let grams = below third 9000000 (omega arith) in
    let end = end_is units (first % units + 1) (second % (units + 1)) (omega arith) (omega (arith, ends)) in
    record {
      begins = omega arith;
      within = omega (arith, begins);
      ends = end.0;
      apart = end.1;
      least = omega (arith, ints, grams);
      most = omega (arith, ints, grams);
    }

pub side_wider : (units more : ℕ) (side : MadeStream) → units ≤ more → IsSide units side → IsSide more side
side_wider units more side le fits = record {
  begins = fits.begins;
  within = omega (arith, fits.within, le);
  ends = omega (arith, fits.ends, le);
  apart = fits.apart;
  least = fits.least;
  most = fits.most;
}

each_side : (number units more from count : ℕ) → 1 ≤ units → units ≤ more → AllByRecursion (IsSide more) (map (side_at number units) (range_with_len from count))
each_side number units more from zero some le = tt
each_side number units more from (suc count) some le =
    (side_wider units more (side_at number units from) le (side_fits units _ _ _ some), each_side number units more (from + 1) count some le)

pub sides_fit : (number units more count : ℕ) → 1 ≤ units → units ≤ more → All (IsSide more) (map (side_at number units) (range_with_len 0 count))
sides_fit number units more count some le =
    All-from_recursion (IsSide more) (map (side_at number units) (range_with_len 0 count)) (each_side number units more 0 count some le)

-- ---- the line

-- what a side stream adds is at most its flow
pub change_within : (units i : ℕ) (side : MadeStream) → IsSide units side → unsigned_abs (added_to i side) ≤ most_side_grams
change_within units i side fits = by (passes_by side i) (leads_back side i)
  where
    by : (passes back : Bool) → unsigned_abs (if passes then neg_ℤ side.truth else if back then side.truth else pos 0) ≤ most_side_grams
    by true back = omega (arith, ints, fits.least, fits.most)
    by false true = omega (arith, ints, fits.least, fits.most)
    by false false = omega (arith, ints)

each_change : (units i : ℕ) (sides : List MadeStream) → AllByRecursion (IsSide units) sides → AllByRecursion (λ side. unsigned_abs (added_to i side) ≤ most_side_grams) sides
each_change units i [] fit = tt
each_change units i (side ∷ sides) fit = (change_within units i side fit.0, each_change units i sides fit.1)

-- the true flow of a stream of the line
pub truth_within : (units i : ℕ) (sides : List MadeStream) → length sides ≤ 2000 → All (IsSide units) sides
    → (pos 30000000000 ≤ℤ line_truth sides i) × (line_truth sides i ≤ℤ pos 70000000000)
truth_within units i sides few fit =
    let bound = sum_over-bound (added_to i) most_side_grams sides (each_change units i sides (recursion_from_All (IsSide units) sides fit)) in
    by (sum_over (added_to i) sides) (length sides) bound few
  where
    by : (sum : ℤ) (n : ℕ) → unsigned_abs sum ≤ n * most_side_grams → n ≤ 2000 → (pos 30000000000 ≤ℤ (line_grams +ℤ sum)) × ((line_grams +ℤ sum) ≤ℤ pos 70000000000)
    by sum n bound few_are = (omega (arith, ints, bound, few_are), omega (arith, ints, bound, few_are))

-- a stream of the line is one of the plant
line_made : (units i : ℕ) (sides : List MadeStream) → 1 ≤ units → 1 ≤ i → i ≤ units + 1 → length sides ≤ 2000 → All (IsSide units) sides → IsMade units (line_stream units sides i)
line_made units i sides some from to few fit =
    let truth = truth_within units i sides few fit in
    let ends : (to_of (i == units + 1) ≤ units) × (i - 1 ≢ to_of (i == units + 1)) = by (i == units + 1) refl in
    record {
      within = omega (arith, to);
      ends = ends.0;
      apart = ends.1;
      least = omega (arith, ints, truth.0);
      most = omega (arith, ints, truth.1);
    }
  where
    to_of : Bool → ℕ
    to_of last = if last then 0 else i

    by : (last : Bool) → (i == units + 1) ≡ last → (to_of last ≤ units) × (i - 1 ≢ to_of last)
    by true e = (omega arith, λ same. absurd (omega (arith, same, eqb-true i (units + 1) e, some)))
    by false e = (omega (arith, to, from, eqb-false i (units + 1) e), λ same. absurd (omega (arith, same, from)))

each_line : (units from count : ℕ) (sides : List MadeStream) → 1 ≤ units → 1 ≤ from → from + count ≤ units + 2 → length sides ≤ 2000 → All (IsSide units) sides
    → AllByRecursion (IsMade units) (map (line_stream units sides) (range_with_len from count))
each_line units from zero sides some low high few fit = tt
each_line units from (suc count) sides some low high few fit =
    (line_made units from sides some low (omega (arith, high)) few fit, each_line units (from + 1) count sides some (omega arith) (omega (arith, high)) few fit)

-- a side stream is one of the plant
each_other : (units : ℕ) (sides : List MadeStream) → AllByRecursion (IsSide units) sides → AllByRecursion (IsMade units) sides
each_other units [] fit = tt
each_other units (side ∷ sides) fit = (
  record {
    within = fit.0.within;
    ends = fit.0.ends;
    apart = fit.0.apart;
    least = omega (arith, ints, fit.0.least);
    most = omega (arith, ints, fit.0.most);
  },
  each_other units sides fit.1,
)

-- all streams are
pub all_made : (units : ℕ) (sides : List MadeStream) → 1 ≤ units → length sides ≤ 2000 → All (IsSide units) sides → All (IsMade units) (line_streams units sides ++ sides)
all_made units sides some few fit =
    All-append (IsMade units) (line_streams units sides) sides
    (All-from_recursion (IsMade units) (line_streams units sides) (each_line units 1 (units + 1) sides some (omega arith) (omega arith) few fit))
    (All-from_recursion (IsMade units) sides (each_other units sides (recursion_from_All (IsSide units) sides fit)))

pub made_wider : (units more : ℕ) (stream : MadeStream) → units ≤ more → IsMade units stream → IsMade more stream
made_wider units more stream le fits = record {
  within = omega (arith, fits.within, le);
  ends = omega (arith, fits.ends, le);
  apart = fits.apart;
  least = fits.least;
  most = fits.most;
}

-- ---- one more

abbrev pub no_stream : MadeStream
no_stream = record { from = 0; to = 0; truth = pos 0 }

-- one more side stream counts
pub truth_more : (i : ℕ) (sides : List MadeStream) (k : ℕ) (truth part : ℤ) → k < length sides → truth ≡ line_truth (take k sides) i → part ≡ added_to i (get_or sides k no_stream)
    → truth +ℤ part ≡ line_truth (take (k + 1) sides) i
truth_more i sides k truth part here so_far value =
    ap₂ (λ (x y : ℤ). x +ℤ y) so_far value ∙ add_assoc line_grams (sum_over (added_to i) (take k sides)) (added_to i (get_or sides k no_stream))
    ∙ ap (λ (s : ℤ). line_grams +ℤ s) (sym (sum_over-take_more (added_to i) sides k no_stream here))
  where
    add_assoc : (a b c : ℤ) → (a +ℤ b) +ℤ c ≡ a +ℤ (b +ℤ c)
    add_assoc a b c = omega (arith, ints)

-- ---- the plant

-- the side streams of a plant
pub record AreSides (number streams : ℕ) (sides : List MadeStream) : Type 0 where
  pub are : sides ≡ side_streams number streams
  pub few : length sides ≤ most_made_streams
  pub each : All (IsSide most_made_streams) sides
  pub fit : All (IsSide (units_of streams)) sides
  pub many : length sides ≡ sides_of streams

pub plant_sides : (number streams units count : ℕ) (sides : List MadeStream) → least_streams ≤ streams → streams ≤ most_made_streams → units ≡ units_of streams → count ≡ streams - (units + 1)
    → sides ≡ map (side_at number units) (range_with_len 0 count) → AreSides number streams sides
plant_sides number streams units count sides least most units_is count_is is =
    let n = units_of streams in
    let k = sides_of streams in
    let same : count ≡ k = omega (arith, count_is, units_is) in
    let are : sides ≡ side_streams number streams =
    is ∙ ap (λ (u : ℕ). map (side_at number u) (range_with_len 0 count)) units_is ∙ ap (λ (m : ℕ). map (side_at number n) (range_with_len 0 m)) same in
    let many : length sides ≡ k = ap (λ (l : List MadeStream). length l) are ∙ length-map-range_with_len (side_at number n) 0 k in
    record {
      are = are;
      few = omega (arith, many, most);
      each = All-same (IsSide most_made_streams) sides (side_streams number streams) are (sides_fit number n most_made_streams k (omega arith) (omega (arith, most)));
      fit = All-same (IsSide n) sides (side_streams number streams) are (sides_fit number n n k (omega arith) (omega arith));
      many = many;
    }

-- the plant
pub record IsPlant (number streams : ℕ) (plant : List MadeStream) : Type 0 where
  pub value : plant ≡ made_streams number streams
  pub count : length plant ≡ streams
  pub fits : All (IsMade (units_of streams)) plant
  pub made : All (IsMade most_made_streams) plant

pub plant_whole : (number streams units : ℕ) (sides plant : List MadeStream) → least_streams ≤ streams → streams ≤ most_made_streams → units ≡ units_of streams → AreSides number streams sides
    → plant ≡ line_streams units sides ++ sides → IsPlant number streams plant
plant_whole number streams units sides plant least most units_is are is =
    let n = units_of streams in
    let value : plant ≡ made_streams number streams =
    is ∙ ap (λ (u : ℕ). line_streams u sides ++ sides) units_is ∙ ap (λ (s : List MadeStream). line_streams n s ++ s) are.are in
    let long : length (line_streams n sides ++ sides) ≡ (n + 1) + length sides =
    length-append (line_streams n sides) sides ∙ ap (λ (m : ℕ). m + length sides) (length-map-range_with_len (line_stream n sides) 1 (n + 1)) in
    let fits = All-same (IsMade n) plant (line_streams n sides ++ sides) (is ∙ ap (λ (u : ℕ). line_streams u sides ++ sides) units_is) (all_made n sides (omega arith) (are.few) are.fit) in
    record {
      value = value;
      count = ap (λ (l : List MadeStream). length l) (is ∙ ap (λ (u : ℕ). line_streams u sides ++ sides) units_is) ∙ long ∙ omega (arith, are.many, least);
      fits = fits;
      made = All-weaker (IsMade n) (IsMade most_made_streams) (λ stream fit. made_wider n most_made_streams stream (omega (arith, most)) fit) plant fits;
    }
