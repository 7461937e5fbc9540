-- Statement. The block that rows give.
use Rattle.std.specs.Prelude.{map}
use Rattle.pb_blocks.specs.Results.{result_of}
use Rattle.pb_readback.specs.declared.block.Block.{Block}
use Rattle.pb_readback.specs.declared.draft.Draft.{Draft}

-- the block that the rows of a draft give
abbrev pub block_of : Draft → Block
block_of draft = record {
  period = draft.heading.period;
  round = draft.heading.round;
  gap = draft.heading.gap;
  sweeps = draft.heading.sweeps;
  names = record { nodes = draft.nodes; streams = draft.streams };
  stage = record {
    graph = draft.graph;
    streams = map (result_of draft.streams) draft.rows;
    prices = draft.prices;
    solved = draft.solution.solved;
    g = draft.solution.g;
    h = draft.solution.h;
    dof = draft.solution.dof;
    low = draft.solution.low;
    high = draft.solution.high;
    tests = draft.tests;
  };
}
