use Rattle.pb_gap.proofs.StreamSums.{stream_sum, stream_within}
use Rattle.pb_gap.proofs.laws.stream_law.Goals as goal

pub returns : goal.returns
returns c = record { sum = stream_sum; within = stream_within }
