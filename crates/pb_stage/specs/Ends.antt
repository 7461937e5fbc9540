-- Inside. The ends of a statistic as numbers.
use Rattle.std.specs.Prelude.{ℕ, ℤ, pos, ◌≤ℤ◌, Option, IfSome}
use Rattle.pb_graph.specs.ProcessGraph.{ProcessGraph}
use Rattle.pb_study.specs.WellFormed.{IsWide}
use Rattle.pb_gap.specs.Solution.{IsSolvedStatistic}

-- a number that is at least 0
abbrev pub IsNonnegative : ℤ → Type 0
IsNonnegative z = pos 0 ≤ℤ z

-- the ends of the statistic of a solved graph, at least 0 and not too wide
pub record IsEndPair (graph : ProcessGraph) (gap sweeps : ℕ) (ends : ℤ × Option ℤ) : Type 0 where
  pub statistic : IsSolvedStatistic graph gap sweeps ends.0 ends.1
  pub low : IsNonnegative ends.0
  pub low_wide : IsWide ends.0
  pub high : IfSome ends.1 IsNonnegative
  pub high_wide : IfSome ends.1 IsWide
