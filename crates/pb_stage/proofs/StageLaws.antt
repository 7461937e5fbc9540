-- What crates above may cite of a stage that is shown: it is certified.
use Rattle.pb_graph.proofs.BalanceLaws.{certificate_shows}
use Rattle.pb_gap.proofs.GapLaws.{distance, gaps, high, low, stream_least, stream_within}
use Rattle.pb_stage.proofs.TestLaws.{global_accept, global_reject}
use Rattle.pb_stage.specs.Laws.{ShownLaw}
use Rattle.pb_stage.proofs.ShownLemmas.{shown_by}

pub shown : ShownLaw
shown = shown_by (record {
  certificate = certificate_shows;
  gaps = gaps;
  stream = stream_within;
  least_stream = stream_least;
  distance = distance;
  low = low;
  high = high;
  decides = record { rejects = global_reject; accepts = global_accept };
})
