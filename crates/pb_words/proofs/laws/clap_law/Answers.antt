use Rattle.std.proofs.Common.{sym, subst}
use Rattle.pb_words.specs.Given.{Given}
use Rattle.pb_words.specs.Line.{IsGivenByClap}
use Rattle.pb_words.proofs.EndLemmas.{parts_of_taken, taken_of_parts}
use Rattle.pb_words.proofs.laws.clap_law.Goals as goal

pub returns : goal.returns
returns c = λ words given. (
  λ taken. parts_of_taken words given taken,
  λ line. subst (λ (g : Given). IsGivenByClap words g) (sym line.2) (taken_of_parts line.0 words line.1),
)
