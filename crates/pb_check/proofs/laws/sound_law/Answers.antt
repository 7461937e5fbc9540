use Rattle.pb_check.proofs.CheckLaws.{sound}
use Rattle.pb_check.proofs.laws.sound_law.Goals as goal

pub returns : goal.returns
returns c = sound
