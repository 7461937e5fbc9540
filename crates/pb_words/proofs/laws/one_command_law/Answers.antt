use Rattle.pb_words.proofs.WordLaws.{one_command}
use Rattle.pb_words.proofs.laws.one_command_law.Goals as goal

pub returns : goal.returns
returns c = one_command
