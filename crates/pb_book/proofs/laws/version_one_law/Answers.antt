use Rattle.pb_book.proofs.VersionOneLemmas.{version_one}
use Rattle.pb_book.proofs.laws.version_one_law.Goals as goal

pub returns : goal.returns
returns c = version_one
