-- A stage that passes is shown, so it is certified.
use Rattle.std.proofs.Common.{◌≡◌, ◌↔◌, ℕ, pos, Option, Some, None, refl, sym, subst, arith}
use Rattle.std.specs.Prelude.{IfSome}
use Rattle.pb_study.specs.declared.results.Solved.{Solved}
use Rattle.pb_study.specs.declared.results.Solved.TheVariants.{Converged, Unconverged}
use Rattle.pb_study.specs.declared.results.Tests.{Tests}
use Rattle.pb_study.specs.declared.results.Stage.{Stage}
use Rattle.pb_graph.specs.ProcessGraph.{IsProcessGraph}
use Rattle.pb_study.specs.WellFormed.{IsWellFormed}
use Rattle.pb_gap.specs.declared.gap.Gap.{Gap}
use Rattle.pb_gap.specs.Gap.{IsGap, MeetsGap, deviations_of}
use Rattle.pb_gap.specs.Laws.{AreGaps}
use Rattle.pb_stage.specs.Printed.{printed_flows, printed_gap, printed_price}
use Rattle.pb_stage.specs.Certified.{AreShownTests, IsShownStage}
use Rattle.pb_stage.specs.Laws.{ShownLaw}
use Rattle.pb_check.specs.declared.faults.Test.TheVariants.{Balance, Price, Box, Freedom, State, Bounds, Statistic, Nodal, Least}
use Rattle.pb_check.specs.declared.faults.Test.{Test}
use Rattle.pb_check.specs.Asked.{IsStateAt, found_gap}
use Rattle.pb_check.specs.Places.{AreNodalRows, AreVerdicts}
use Rattle.pb_check.specs.Verdict.{IsPassed}
use Rattle.pb_check.specs.Laws.{SoundLaw}
use Rattle.pb_check.proofs.GroupLemmas.{prices_by_nodes}

tests_if : (stage : Stage) (o : Option Tests) → IfSome o (AreNodalRows stage) → IfSome o (AreVerdicts stage) → IfSome o (AreShownTests stage)
tests_if stage None rows verdicts = tt
tests_if stage (Some tests) rows verdicts = record { overall = verdicts.0; groups = rows; nodal = verdicts.1; measure = verdicts.2 }

passed_shown : AreGaps → (stage : Stage) (gap sweeps : ℕ) → IsProcessGraph stage.graph → IsWellFormed stage → IsPassed stage gap sweeps → IsShownStage stage
passed_shown gaps stage gap sweeps limits formed passed =
    let deviations = deviations_of (printed_price stage) stage.graph.streams (printed_flows stage) in
    let prices = prices_by_nodes stage (passed Price) in
    record {
      limits = limits;
      each = formed.each_stream;
      shown = passed Test.Witness;
      balanced = passed Balance;
      priced = formed.each_price;
      fit = record {
        shared = prices.shared;
        fixed = prices.fixed;
        within = λ n lt. formed.prices n (pos 0) (omega (arith, lt, formed.each_price));
        box = passed Box;
      };
      numbers = record {
        deviation = subst (IsGap deviations) (sym (passed Test.Gap)) (gaps.is deviations);
        bounded = passed Bounds;
        least_bounded = passed Least;
        freedom = passed Freedom;
        from_below = (passed Statistic).0;
        from_above = (passed Statistic).1;
      };
      tests = tests_if stage stage.tests (passed Nodal) (passed Test.Verdict);
    }

state_is : (gap sweeps : ℕ) (printed found : Gap) (solved : Solved) → printed ≡ found → IsStateAt gap sweeps printed solved → ((k : ℕ) × (solved ≡ Converged k)) ↔ MeetsGap gap found
state_is gap sweeps printed found (Converged k) same is = ((λ yes_. subst (MeetsGap gap) same is.0), (λ met. (k, refl)))
state_is gap sweeps printed found (Unconverged k) same is = ((λ (c, e). cc e), (λ met. absurd (is.0 (subst (MeetsGap gap) (sym same) met))))

pub sound_by : AreGaps → ShownLaw → SoundLaw
sound_by gaps shown stage gap sweeps limits formed passed = record {
  certified = shown stage (passed_shown gaps stage gap sweeps limits formed passed);
  state = state_is gap sweeps (printed_gap stage) (found_gap stage) stage.solved (passed Test.Gap) (passed State);
}
