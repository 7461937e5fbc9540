use Rattle.std.proofs.Common.{rules}
use Rattle.pb_rows.proofs.DateTextLemmas.{read_within}
use Rattle.pb_rows.proofs.date.day_of.Goals as goal

pub returns-clause-within : goal.returns-clause-within
returns-clause-within c = read_within c.args.field.now c.day_number.result (search rules)
