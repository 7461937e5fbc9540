use Rattle.pb_fixed.proofs.BlockLaws.{FitBlocks-above, block_exponent_is, block_exponent_only}
use Rattle.pb_fixed.proofs.laws.block_laws.Goals as goal

pub returns : goal.returns
returns c = record { exponent = block_exponent_is; only = block_exponent_only; fit_above = FitBlocks-above }
