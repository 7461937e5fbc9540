use Rattle.std.proofs.Common.{◌≤ℤ◌, FitsSigned}
use mir.Syntax.{w128}
use Rattle.std.proofs.Math.Facts.{to_z-of_z}
use Rattle.pb_study.specs.WellFormed.{IsWide}
use Rattle.pb_stage.proofs.EndLemmas.{high_end, low_end, wide_below}
use Rattle.pb_stage.proofs.measures.measure.Goals as goal

pub drop_low-low-requires-clause-low : goal.drop_low-low-requires-clause-low
drop_low-low-requires-clause-low c =
    let fits : FitsSigned w128 c.args.low = c.ranges.low in
    simp to_z-of_z (low_end c.args.graph.now c.args.gap c.args.sweeps c.args.low c.args.high c.requires.statistic)

pub drop_high-high-requires-clause-high : goal.drop_high-high-requires-clause-high
drop_high-high-requires-clause-high c = high_end c.args.graph.now c.args.gap c.args.sweeps c.args.low c.args.high c.requires.statistic

pub returns-clause-within : goal.returns-clause-within
returns-clause-within c = λ low_wide high_wide.
    let fits : FitsSigned w128 c.args.low = c.ranges.low in
    let fits_drop : FitsSigned w128 c.drop_low-low.result = record { sfits = c.drop_low-low.type_inv } in
    let most : c.drop_low-low.result ≤ℤ c.args.low = simp to_z-of_z at c.drop_low-low.ensures.most in
    let low : IsWide c.drop_low-low.result = wide_below c.drop_low-low.result c.args.low c.drop_low-low.ensures.least most low_wide in
    simp to_z-of_z (record {
      stream = c.requires.stream;
      low = low;
      high = c.drop_high-high.ensures.wide high_wide;
      critical = c.requires.critical;
    })
