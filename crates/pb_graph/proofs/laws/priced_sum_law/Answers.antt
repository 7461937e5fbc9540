use Rattle.pb_graph.proofs.PriceLemmas.{priced_sums, balanced_sum}
use Rattle.pb_graph.proofs.laws.priced_sum_law.Goals as goal

pub returns : goal.returns
returns c = record { nodes = priced_sums; balanced = balanced_sum }
