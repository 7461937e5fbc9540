-- Statement. The variance of a group of nodes.
use Rattle.std.specs.Prelude.{ℕ, ◌*◌, ℤ, pos, List, Option, if◌then◌else◌}
use Rattle.std.specs.Option.{option_map_or}
use Rattle.pb_limits.specs.Limits.{most_streams, most_variance}
use Rattle.pb_fixed.specs.Sums.{sum_over}
use Rattle.pb_graph.specs.declared.records.Meas.{Meas}
use Rattle.pb_graph.specs.declared.records.Stream.{Stream}
use Rattle.pb_graph.specs.Groups.{has_one_end}

-- the variance of a stream, or 0 if it is unmeasured
abbrev pub variance_of : Option Meas → ℤ
variance_of meas = option_map_or (λ (m : Meas). m.variance) meas (pos 0)

-- what a stream adds to the variance of group k
abbrev pub crossing_variance : List ℕ → ℕ → Stream → ℤ
crossing_variance group k stream = if has_one_end group k stream then variance_of stream.meas else pos 0

-- The variance of group k: the sum of the variances of the streams with exactly one end in it. It is the variance of the nodal
-- imbalance of the group (Mah, Stanley and Downing 1976).
abbrev pub group_variance : List ℕ → ℕ → List Stream → ℤ
group_variance group k streams = sum_over (crossing_variance group k) streams

-- the greatest variance of a group: that of as many streams as a graph may have
abbrev pub most_group_variance : ℕ
most_group_variance = most_streams * most_variance
