-- What crates above may cite of gaps, bounds and statistics: the laws; and that the sum of a stream is of measured streams.
pub use Rattle.pb_gap.proofs.Weights.{have_weights}
pub use Rattle.pb_gap.proofs.Gaps.{gaps}
pub use Rattle.pb_gap.proofs.StreamSums.{stream_signed, stream_within}
pub use Rattle.pb_gap.proofs.HypercircleLemmas.{stream_least}
pub use Rattle.pb_gap.proofs.LeastLemmas.{distance}
pub use Rattle.pb_gap.proofs.Statistic.{low, high}
