-- The ends of a statistic are at least 0.
use Rattle.std.proofs.Common.{◌≡◌, ◌∙◌, ◌^◌, ℕ, ℤ, pos, ◌-ℤ◌, ◌*ℤ◌, ◌≤ℤ◌, Bool, true, false, cond, List, [], ◌∷◌, ◌++◌, length, All, Option, Some, None, inl, inr, refl, sym, ap, subst, arith}
use Rattle.std.specs.Prelude.{IfSome, int_lt, nat_lt, if◌then◌else◌}
use Rattle.std.specs.List.{list_any}
use Rattle.std.proofs.lemmas.Bool.{cases_lt}
use Rattle.std.proofs.lemmas.Int.{ints}
use Rattle.std.proofs.lemmas.List.{get_or_append_left, get_or_push, length_push}
use Rattle.pb_fixed.proofs.QuotientLaws.{ceiling_is}
use Rattle.pb_fixed.proofs.Order.{square_pos}
use Rattle.pb_fixed.specs.Quotients.{ceil_div, floor_div}
use Rattle.pb_graph.specs.declared.records.Stream.{Stream}
use Rattle.pb_study.specs.declared.results.Solved.{Solved}
use Rattle.pb_study.specs.declared.results.MeasureTest.{MeasureTest}
use Rattle.pb_graph.specs.ProcessGraph.{ProcessGraph}
use Rattle.pb_study.specs.WellFormed.{IsWide}
use Rattle.pb_gap.specs.declared.gap.Gap.{Gap}
use Rattle.pb_gap.specs.Gap.{gap_of, gap_size}
use Rattle.pb_gap.specs.State.{State, gap_in, price_in}
use Rattle.pb_gap.specs.Solution.{IsSolution, IsSolvedStatistic}
use Rattle.pb_gap.specs.Statistic.{adjustment_above, adjustment_below, adjustments_by, capped_squares, full_squares, high_of, low_of, adjustment_cap, statistic_of}
use Rattle.pb_stage.specs.Ends.{IsEndPair, IsNonnegative}

max_nonnegative : (x : ℤ) (b : Bool) → int_lt x (pos 0) ≡ b → pos 0 ≤ℤ cond b (pos 0) x
max_nonnegative x true is = omega (arith, ints)
max_nonnegative x false is = omega (arith, ints, is)

zero_or : (b : Bool) (x : ℤ) → pos 0 ≤ℤ x → pos 0 ≤ℤ (if b then pos 0 else x)
zero_or true x is = omega (arith, ints)
zero_or false x is = is

low_nonnegative : (ss : List Stream) (ps : List ℤ) (gap : Gap) → IsNonnegative (low_of ss ps gap)
low_nonnegative ss ps gap =
    let top = floor_div (pos 1000 *ℤ (capped_squares (adjustments_by adjustment_below ss ps) -ℤ (pos (gap_size gap) *ℤ pos (gap_size gap)))) (pos (2 ^ 40)) in
    zero_or (nat_lt (2 ^ 57) (gap_size gap)) (cond (int_lt top (pos 0)) (pos 0) top) (max_nonnegative top (int_lt top (pos 0)) refl)

squares_nonnegative : (bs : List ℤ) → pos 0 ≤ℤ full_squares bs
squares_nonnegative [] = omega (arith, ints)
squares_nonnegative (b ∷ bs) = let here = square_pos b in let rest = squares_nonnegative bs in omega (arith, ints, here, rest)

ceiling_nonnegative : (n : ℤ) → pos 0 ≤ℤ n → pos 0 ≤ℤ ceil_div n (pos (2 ^ 40))
ceiling_nonnegative n is = let c = ceiling_is n (pos (2 ^ 40)) (omega (arith, ints)) in omega (arith, ints, c.above, is)

none_or : (b : Bool) (x : ℤ) → pos 0 ≤ℤ x → IfSome (if b then None else Some x) IsNonnegative
none_or true x is = tt
none_or false x is = is

high_nonnegative : (ss : List Stream) (ps : List ℤ) → IfSome (high_of ss ps) IsNonnegative
high_nonnegative ss ps =
    let bs = adjustments_by adjustment_above ss ps in
    let squares = squares_nonnegative bs in
    none_or (list_any (λ b. int_lt adjustment_cap b) bs) (ceil_div (pos 1000 *ℤ full_squares bs) (pos (2 ^ 40)))
    (ceiling_nonnegative (pos 1000 *ℤ full_squares bs) (omega (arith, ints, squares)))

-- of a solved graph
pub low_end : (g : ProcessGraph) (gap sweeps : ℕ) (low : ℤ) (high : Option ℤ) → IsSolvedStatistic g gap sweeps low high → IsNonnegative low
low_end g gap sweeps low high is = subst IsNonnegative (sym is.is_low) (low_nonnegative g.streams is.flows _)

pub high_end : (g : ProcessGraph) (gap sweeps : ℕ) (low : ℤ) (high : Option ℤ) → IsSolvedStatistic g gap sweeps low high → IfSome high IsNonnegative
high_end g gap sweeps low high is = subst (λ (o : Option ℤ). IfSome o IsNonnegative) (sym is.is_high) (high_nonnegative g.streams is.flows)

-- the ends that a solver gives
pub end_pair : (g : ProcessGraph) (gap sweeps : ℕ) (solved : Solved) (s : State) (ends : ℤ × Option ℤ) → s.graph ≡ g
    → IsSolution g gap sweeps solved (price_in s) s.flows → ends ≡ statistic_of s.graph.streams s.flows (gap_in s) → IsWide ends.0 → IfSome ends.1 IsWide
    → IsEndPair g gap sweeps ends
end_pair g gap sweeps solved s ends same solution value low_wide high_wide =
    let statistic : IsSolvedStatistic g gap sweeps ends.0 ends.1 = record {
      solved = solved;
      price = price_in s;
      flows = s.flows;
      solution = solution;
      is_low = ap (λ (p : ℤ × Option ℤ). p.0) value ∙ ap (λ (h : ProcessGraph). low_of h.streams s.flows (gap_of (price_in s) h.streams s.flows)) same;
      is_high = ap (λ (p : ℤ × Option ℤ). p.1) value ∙ ap (λ (h : ProcessGraph). high_of h.streams s.flows) same;
    } in
    record {
      statistic = statistic;
      low = low_end g gap sweeps ends.0 ends.1 statistic;
      low_wide = low_wide;
      high = high_end g gap sweeps ends.0 ends.1 statistic;
      high_wide = high_wide;
    }

-- what is from 0 up to a number is no wider
pub wide_below : (x y : ℤ) → pos 0 ≤ℤ x → x ≤ℤ y → IsWide y → IsWide x
wide_below x y from to wide = omega (arith, ints, from, to, wide)

-- one more test that keeps what the others keep
pub tests_within : (P : MeasureTest → Type 0) (tests : List MeasureTest) (test : MeasureTest) → All P tests → P test → All P (tests ++ test ∷ [])
tests_within P tests test all here = λ k d lt. elim (cases_lt k (length tests)) [
  | inl less ↦ subst P (sym (get_or_append_left tests (test ∷ []) d k less)) (all k d less)
  | inr more ↦ subst P (sym (get_or_push tests test d k (omega (arith, more, lt, length_push tests test)))) here
]
