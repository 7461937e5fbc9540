use Rattle.pb_gap.proofs.HypercircleLemmas.{hypercircle, least_within, stream_least}
use Rattle.pb_gap.proofs.LeastRangeLemmas.{half_once, least_range}
use Rattle.pb_gap.proofs.laws.least_bounds_law.Goals as goal

pub returns : goal.returns
returns c = record { hypercircle = hypercircle; width = half_once; sum = least_within; stream = stream_least; range = least_range }
