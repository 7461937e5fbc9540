-- Statement. Prices for the groups of a graph.
use Rattle.std.specs.Prelude.{ℕ, ℤ, pos, List, get_or}
use Rattle.pb_graph.specs.ProcessGraph.{ProcessGraph}
use Rattle.pb_graph.specs.Groups.{group_at}

-- prices for the groups of a graph: the number of each node's group, and the price of each group
pub record Priced : Type 0 where
  pub graph : ProcessGraph
  pub group : List ℕ
  pub prices : List ℤ

-- the price of a node is that of its group
abbrev pub price_of : Priced → ℕ → ℤ
price_of d n = get_or d.prices (group_at d.group n) (pos 0)
