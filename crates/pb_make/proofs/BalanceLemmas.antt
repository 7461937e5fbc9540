-- The true flows of a made plant balance at each unit.
use Rattle.std.proofs.Common.{◌≡◌, ◌≢◌, ◌≤◌, ◌<◌, ◌∙◌, ◌⊎◌, ℕ, zero, suc, ◌+◌, List, [], ◌∷◌, ℤ, pos, ◌+ℤ◌, Bool, true, false, ap, refl, sym, arith, inl, inr}
use Rattle.std.specs.Prelude.{◌-◌, ◌-ℤ◌, ◌==◌, ◌&&◌, ◌||◌, not, map, nat_le, nat_lt, neg_ℤ, if◌then◌else◌}
use Rattle.std.specs.List.{AllByRecursion, range_with_len}
use Rattle.std.proofs.lemmas.Bool.{cases_Bool, eqb-false, eqb-true, leb-false, leb-true, ltb-false, ltb-true, ne_eqb}
use Rattle.std.proofs.lemmas.Int.{ints}
use Rattle.std.proofs.lemmas.List.Elements.{recursion_from_All}
use Rattle.pb_fixed.specs.Sums.{sum_over}
use Rattle.pb_fixed.proofs.Sums.{sum_over-append}
use Rattle.pb_limits.specs.Limits.{most_made_streams}
use Rattle.pb_make.specs.declared.plant.MadeStream.{MadeStream}
use Rattle.pb_make.specs.Bounds.{IsSide}
use Rattle.pb_make.specs.Laws.{truth_brought_to}
use Rattle.pb_make.specs.Plant.{added_to, least_streams, line_grams, line_stream, made_streams, sides_of, units_of}
use Rattle.pb_make.proofs.Abbreviations.{line_streams, line_truth, side_streams}
use Rattle.pb_make.proofs.PlantLemmas.{AreSides, plant_sides}

-- ---- tests of numbers

less : (a b : ℕ) → a < b → nat_lt a b ≡ true
less a b lt = elim (cases_Bool (nat_lt a b)) [ inl e ↦ e | inr e ↦ absurd (omega (arith, ltb-false a b e)) ]

not_less : (a b : ℕ) → b ≤ a → nat_lt a b ≡ false
not_less a b le = elim (cases_Bool (nat_lt a b)) [ inl e ↦ absurd (omega (arith, ltb-true a b e)) | inr e ↦ e ]

most : (a b : ℕ) → a ≤ b → nat_le a b ≡ true
most a b le = elim (cases_Bool (nat_le a b)) [ inl e ↦ e | inr e ↦ absurd (omega (arith, leb-false a b e)) ]

not_most : (a b : ℕ) → b < a → nat_le a b ≡ false
not_most a b lt = elim (cases_Bool (nat_le a b)) [ inl e ↦ absurd (omega (arith, leb-true a b e)) | inr e ↦ e ]

same : (a b : ℕ) → a ≡ b → (a == b) ≡ true
same a b is = elim (cases_Bool (a == b)) [ inl e ↦ e | inr e ↦ absurd (eqb-false a b e is) ]

apart : (a b : ℕ) → a ≢ b → (a == b) ≡ false
apart a b other = ne_eqb a b other

-- less, the same, or more
compared : (a b : ℕ) → (a < b) ⊎ ((a ≡ b) ⊎ (b < a))
compared a b = elim (cases_Bool (nat_lt a b)) [
  | inl e ↦ inl (ltb-true a b e)
  | inr e ↦ elim (cases_Bool (a == b)) [
    | inl is ↦ inr (inl (eqb-true a b is))
    | inr other ↦ inr (inr (omega (arith, ltb-false a b e, eqb-false a b other)))
  ]
]

-- ---- one side stream

-- what it takes from the stream into a unit, less what it takes from the stream out of it, and what it brings there
abbrev by_tests : (passes back passes_next back_next ends begins : Bool) → ℤ → ℤ
by_tests passes back passes_next back_next ends begins f =
    ((if passes then neg_ℤ f else if back then f else pos 0) -ℤ (if passes_next then neg_ℤ f else if back_next then f else pos 0))
    +ℤ ((if ends then f else pos 0) -ℤ (if begins then f else pos 0))

-- the tests of a side stream at a unit
abbrev at_unit : ℕ → ℕ → ℕ → ℤ → ℤ
at_unit from to u f =
    by_tests (nat_lt from u && ((to == 0) || nat_le u to)) (not (to == 0) && nat_lt to u && nat_le u from)
    (nat_lt from (u + 1) && ((to == 0) || nat_le (u + 1) to)) (not (to == 0) && nat_lt to (u + 1) && nat_le (u + 1) from) (to == u) (from == u) f

-- out of the plant
out_even : (from to u : ℕ) (f : ℤ) → to ≡ 0 → 1 ≤ u → at_unit from to u f ≡ pos 0
out_even from to u f out some = elim (compared from u) [
  | inl before ↦ rw (same to 0 out, apart to u (λ e. absurd (omega (arith, e, out, some))), apart from u (λ e. absurd (omega (arith, e, before))), less from u before, less from (u + 1) (omega arith)) (omega (arith, ints))
  | inr (inl here) ↦ rw (same to 0 out, apart to u (λ e. absurd (omega (arith, e, out, some))), same from u here, not_less from u (omega (arith, here)), less from (u + 1) (omega (arith, here))) (omega (arith, ints))
  | inr (inr behind) ↦ rw (same to 0 out, apart to u (λ e. absurd (omega (arith, e, out, some))), apart from u (λ e. absurd (omega (arith, e, behind))), not_less from u (omega (arith, behind)), not_less from (u + 1) (omega (arith, behind))) (omega (arith, ints))
]

-- to a unit
on_even : (from to u : ℕ) (f : ℤ) → to ≢ 0 → from ≢ to → 1 ≤ u → at_unit from to u f ≡ pos 0
on_even from to u f on other some = elim (compared from u) [
  | inl before ↦ elim (compared to u) [
    | inl short ↦ rw (apart to 0 on, apart to u (λ e. absurd (omega (arith, e, short))), apart from u (λ e. absurd (omega (arith, e, before))), less from u before, less from (u + 1) (omega arith), not_most u to short, not_most (u + 1) to (omega arith), less to u short, less to (u + 1) (omega arith), not_most u from before, not_most (u + 1) from (omega arith)) (omega (arith, ints))
    | inr (inl here) ↦ rw (apart to 0 on, same to u here, apart from u (λ e. absurd (omega (arith, e, before))), less from u before, less from (u + 1) (omega arith), most u to (omega (arith, here)), not_most (u + 1) to (omega (arith, here)), less to (u + 1) (omega (arith, here)), not_most (u + 1) from (omega arith)) (omega (arith, ints))
    | inr (inr far) ↦ rw (apart to 0 on, apart to u (λ e. absurd (omega (arith, e, far))), apart from u (λ e. absurd (omega (arith, e, before))), less from u before, less from (u + 1) (omega arith), most u to (omega arith), most (u + 1) to (omega arith)) (omega (arith, ints))
  ]
  | inr (inl here) ↦ elim (compared to u) [
    | inl short ↦ rw (apart to 0 on, apart to u (λ e. absurd (omega (arith, e, short))), same from u here, not_less from u (omega (arith, here)), less from (u + 1) (omega (arith, here)), not_most (u + 1) to (omega arith), less to u short, less to (u + 1) (omega arith), most u from (omega (arith, here)), not_most (u + 1) from (omega (arith, here))) (omega (arith, ints))
    | inr (inl both) ↦ absurd (other (here ∙ sym both))
    | inr (inr far) ↦ rw (apart to 0 on, apart to u (λ e. absurd (omega (arith, e, far))), same from u here, not_less from u (omega (arith, here)), less from (u + 1) (omega (arith, here)), most (u + 1) to (omega arith), not_less to u (omega arith)) (omega (arith, ints))
  ]
  | inr (inr behind) ↦ elim (compared to u) [
    | inl short ↦ rw (apart to 0 on, apart to u (λ e. absurd (omega (arith, e, short))), apart from u (λ e. absurd (omega (arith, e, behind))), not_less from u (omega arith), not_less from (u + 1) (omega arith), less to u short, less to (u + 1) (omega arith), most u from (omega arith), most (u + 1) from (omega arith)) (omega (arith, ints))
    | inr (inl here) ↦ rw (apart to 0 on, same to u here, apart from u (λ e. absurd (omega (arith, e, behind))), not_less from u (omega arith), not_less from (u + 1) (omega arith), not_less to u (omega (arith, here)), less to (u + 1) (omega (arith, here)), most (u + 1) from (omega arith)) (omega (arith, ints))
    | inr (inr far) ↦ rw (apart to 0 on, apart to u (λ e. absurd (omega (arith, e, far))), apart from u (λ e. absurd (omega (arith, e, behind))), not_less from u (omega arith), not_less from (u + 1) (omega arith), not_less to u (omega arith), not_less to (u + 1) (omega arith)) (omega (arith, ints))
  ]
]

side_even : (units u : ℕ) (side : MadeStream) → IsSide units side → 1 ≤ u → (added_to u side -ℤ added_to (u + 1) side) +ℤ truth_brought_to u side ≡ pos 0
side_even units u side fits some = elim (cases_Bool (side.to == 0)) [
  | inl out ↦ out_even side.from side.to u side.truth (eqb-true side.to 0 out) some
  | inr on ↦ on_even side.from side.to u side.truth (eqb-false side.to 0 on) fits.apart some
]

-- ---- all side streams

sides_even : (units u : ℕ) (sides : List MadeStream) → AllByRecursion (IsSide units) sides → 1 ≤ u
    → (sum_over (added_to u) sides -ℤ sum_over (added_to (u + 1)) sides) +ℤ sum_over (truth_brought_to u) sides ≡ pos 0
sides_even units u [] fit some = refl
sides_even units u (side ∷ sides) fit some =
    by (added_to u side) (added_to (u + 1) side) (truth_brought_to u side) (sum_over (added_to u) sides) (sum_over (added_to (u + 1)) sides) (sum_over (truth_brought_to u) sides)
    (side_even units u side fit.0 some) (sides_even units u sides fit.1 some)
  where
    by : (a b c d e f : ℤ) → (a -ℤ b) +ℤ c ≡ pos 0 → (d -ℤ e) +ℤ f ≡ pos 0 → ((a +ℤ d) -ℤ (b +ℤ e)) +ℤ (c +ℤ f) ≡ pos 0
    by a b c d e f first rest = omega (arith, ints, first, rest)

-- ---- the line

-- the streams after both ends bring nothing
line_behind : (units u from count : ℕ) (sides : List MadeStream) → u + 2 ≤ from → 1 ≤ u → from + count ≤ units + 2 → sum_over (truth_brought_to u) (map (line_stream units sides) (range_with_len from count)) ≡ pos 0
line_behind units u from zero sides behind some fits = refl
line_behind units u from (suc count) sides behind some fits =
    let none : truth_brought_to u (line_stream units sides from) ≡ pos 0 = by (from == units + 1) in
    add_zero _ _ none (line_behind units u (from + 1) count sides (omega arith) some (omega (arith, fits)))
  where
    add_zero : (a b : ℤ) → a ≡ pos 0 → b ≡ pos 0 → a +ℤ b ≡ pos 0
    add_zero a b a_is b_is = omega (arith, ints, a_is, b_is)

    by : (last : Bool) → ((if (if last then 0 else from) == u then line_truth sides from else pos 0) -ℤ (if from - 1 == u then line_truth sides from else pos 0)) ≡ pos 0
    by true = rw (apart 0 u (λ e. absurd (omega (arith, e, some))), apart (from - 1) u (λ e. absurd (omega (arith, e, behind)))) refl
    by false = rw (apart from u (λ e. absurd (omega (arith, e, behind))), apart (from - 1) u (λ e. absurd (omega (arith, e, behind)))) refl

-- the stream into a unit brings its flow, and the stream out of it takes its flow
into_unit : (units u : ℕ) (sides : List MadeStream) → 1 ≤ u → u ≤ units → truth_brought_to u (line_stream units sides u) ≡ line_truth sides u
into_unit units u sides some within =
    rw (apart u (units + 1) (λ e. absurd (omega (arith, e, within))), same u u refl, apart (u - 1) u (λ e. absurd (omega (arith, e, some)))) (omega (arith, ints))

out_of_unit : (units u : ℕ) (sides : List MadeStream) → 1 ≤ u → truth_brought_to u (line_stream units sides (u + 1)) ≡ neg_ℤ (line_truth sides (u + 1))
out_of_unit units u sides some = by (u + 1 == units + 1)
  where
    by : (last : Bool) → ((if (if last then 0 else u + 1) == u then line_truth sides (u + 1) else pos 0) -ℤ (if u + 1 - 1 == u then line_truth sides (u + 1) else pos 0))
        ≡ neg_ℤ (line_truth sides (u + 1))
    by true = rw (apart 0 u (λ e. absurd (omega (arith, e, some))), same (u + 1 - 1) u (omega arith)) (omega (arith, ints))
    by false = rw (apart (u + 1) u (λ e. absurd (omega (arith, e))), same (u + 1 - 1) u (omega arith)) (omega (arith, ints))

line_here : (units u count : ℕ) (sides : List MadeStream) → 1 ≤ u → u ≤ units → u + suc count ≡ units + 2
    → sum_over (truth_brought_to u) (map (line_stream units sides) (range_with_len u (suc count))) ≡ line_truth sides u -ℤ line_truth sides (u + 1)
line_here units u zero sides some within fits = absurd (omega (arith, within, fits))
line_here units u (suc count) sides some within fits =
    by (truth_brought_to u (line_stream units sides u)) (truth_brought_to u (line_stream units sides (u + 1))) (sum_over (truth_brought_to u) (map (line_stream units sides) (range_with_len (u + 1 + 1) count)))
    (line_truth sides u) (line_truth sides (u + 1)) (into_unit units u sides some within) (out_of_unit units u sides some)
    (line_behind units u (u + 1 + 1) count sides (omega arith) some (omega (arith, fits)))
  where
    by : (a b c t v : ℤ) → a ≡ t → b ≡ neg_ℤ v → c ≡ pos 0 → a +ℤ (b +ℤ c) ≡ t -ℤ v
    by a b c t v a_is b_is c_is = omega (arith, ints, a_is, b_is, c_is)

-- a stream before it brings nothing
before_unit : (units u i : ℕ) (sides : List MadeStream) → i < u → u ≤ units → truth_brought_to u (line_stream units sides i) ≡ pos 0
before_unit units u i sides before within =
    rw (apart i (units + 1) (λ e. absurd (omega (arith, e, before, within))), apart i u (λ e. absurd (omega (arith, e, before))), apart (i - 1) u (λ e. absurd (omega (arith, e, before)))) refl

line_even : (units u from count : ℕ) (sides : List MadeStream) → from ≤ u → 1 ≤ u → u ≤ units → from + count ≡ units + 2
    → sum_over (truth_brought_to u) (map (line_stream units sides) (range_with_len from count)) ≡ line_truth sides u -ℤ line_truth sides (u + 1)
line_even units u from zero sides before some within fits = absurd (omega (arith, before, within, fits))
line_even units u from (suc count) sides before some within fits = elim (cases_Bool (from == u)) [
  | inl here ↦
      let is : from ≡ u = eqb-true from u here in
      ap (λ (i : ℕ). sum_over (truth_brought_to u) (map (line_stream units sides) (range_with_len i (suc count)))) is ∙ line_here units u count sides some within (omega (arith, is, fits))
  | inr other ↦
      let less_than : from < u = omega (arith, before, eqb-false from u other) in
      by (truth_brought_to u (line_stream units sides from)) (sum_over (truth_brought_to u) (map (line_stream units sides) (range_with_len (from + 1) count)))
      (line_truth sides u -ℤ line_truth sides (u + 1)) (before_unit units u from sides less_than within)
      (line_even units u (from + 1) count sides (omega (arith, less_than)) some within (omega (arith, fits)))
]
  where
    by : (a b c : ℤ) → a ≡ pos 0 → b ≡ c → a +ℤ b ≡ c
    by a b c none is = omega (arith, ints, none, is)

-- ---- the plant

pub balanced : (number streams unit : ℕ) → least_streams ≤ streams → streams ≤ most_made_streams → 1 ≤ unit → unit ≤ units_of streams → sum_over (truth_brought_to unit) (made_streams number streams) ≡ pos 0
balanced number streams unit least most_are some within =
    let n = units_of streams in
    let sides = side_streams number streams in
    let are : AreSides number streams sides = plant_sides number streams n (sides_of streams) sides least most_are refl refl refl in
    sum_over-append (truth_brought_to unit) (line_streams n sides) sides
    ∙ by (sum_over (truth_brought_to unit) (line_streams n sides)) (sum_over (truth_brought_to unit) sides) line_grams (sum_over (added_to unit) sides) (sum_over (added_to (unit + 1)) sides)
    (line_even n unit 1 (n + 1) sides some some within (omega arith)) (sides_even n unit sides (recursion_from_All (IsSide n) sides are.fit) some)
  where
    by : (l b g s t : ℤ) → l ≡ (g +ℤ s) -ℤ (g +ℤ t) → (s -ℤ t) +ℤ b ≡ pos 0 → l +ℤ b ≡ pos 0
    by l b g s t line side = omega (arith, ints, line, side)
