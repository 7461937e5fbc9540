-- Statement. What holds of a block that was read.
use Rattle.std.specs.Prelude.{◌≡◌, ◌≤◌, ℕ, true, List, slice_index_or, [], codes}
use Rattle.std.specs.List.{list_all}
use Rattle.pb_limits.specs.Limits.{most_gap, most_rounds, most_sweeps}
use Rattle.pb_rows.specs.Name.{is_name}
use Rattle.pb_graph.specs.ProcessGraph.{IsProcessGraph}
use Rattle.pb_study.specs.WellFormed.{IsWellFormed}
use Rattle.pb_report.specs.Names.{IsNamed}
use Rattle.pb_readback.specs.declared.block.Block.{Block}
use Rattle.pb_blocks.specs.Lists.{differ}

-- names, none of which occurs twice
pub record AreNames (names : List (List ℕ)) : Type 0 where
  pub forms : list_all is_name names ≡ true
  pub different : differ names ≡ true

-- The stage of a block is well formed, each of its nodes and streams has a name, and its numbers are within their limits.
pub record IsWellFormedBlock (block : Block) : Type 0 where
  pub graph : IsProcessGraph block.stage.graph
  pub formed : IsWellFormed block.stage
  pub named : IsNamed block.names block.stage.graph
  pub nodes : AreNames block.names.nodes
  pub streams : AreNames block.names.streams
  pub env : slice_index_or block.names.nodes 0 [] ≡ codes "env"
  pub name : is_name block.period ≡ true
  pub greatest_round : block.round ≤ most_rounds
  pub some_gap : 1 ≤ block.gap
  pub greatest_gap : block.gap ≤ most_gap
  pub greatest_sweeps : block.sweeps ≤ most_sweeps
