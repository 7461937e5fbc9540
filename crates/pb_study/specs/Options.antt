-- Statement. What is asked of a study.
use Rattle.std.specs.Prelude.{◌≡◌, ◌≢◌, ◌≤◌, true}
use Rattle.pb_limits.specs.Limits.{most_gap, most_rounds, most_sweeps}
use Rattle.pb_study.specs.declared.results.Options.{Options}

-- options within their limits: a gap in thousandths of a standard deviation, a limit on the sweeps, and rounds of elimination, for
-- which tests must be made
pub record AreOptions (options : Options) : Type 0 where
  pub some_gap : 1 ≤ options.gap
  pub greatest_gap : options.gap ≤ most_gap
  pub greatest_sweeps : options.sweeps ≤ most_sweeps
  pub greatest_rounds : options.eliminate ≤ most_rounds
  pub rounds_by_tests : options.eliminate ≢ 0 → options.tests ≡ true
