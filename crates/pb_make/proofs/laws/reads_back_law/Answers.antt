use Rattle.pb_make.proofs.MakeLaws.{reads_back_law}
use Rattle.pb_make.proofs.laws.reads_back_law.Goals as goal

pub returns : goal.returns
returns c = reads_back_law
