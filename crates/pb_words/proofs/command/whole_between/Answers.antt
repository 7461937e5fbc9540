use Rattle.std.proofs.Common.{rules}
use Rattle.pb_rows.specs.Number.{number}
use Rattle.pb_words.proofs.CommandLemmas.{between_of}
use Rattle.pb_words.proofs.command.whole_between.Goals as goal

pub returns-clause-between : goal.returns-clause-between
returns-clause-between c = between_of c.args.least c.args.most (number c.args.text.now) c.read_whole.result (search rules)
