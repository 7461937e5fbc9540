use Rattle.pb_blocks.proofs.RowLaws.{row_read_holds}
use Rattle.pb_blocks.proofs.laws.row_read_law.Goals as goal

pub returns : goal.returns
returns c = row_read_holds
