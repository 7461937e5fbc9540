use Rattle.std.proofs.Common.{rules}
use Rattle.pb_grades.proofs.CarriedLemmas.{scaled_most, scaled_fits}
use Rattle.pb_grades.proofs.carried.scaled.Goals as goal

pub returns-clause-value : goal.returns-clause-value
returns-clause-value c = let fits = scaled_fits c.args.flow c.args.grade c.requires.flow c.requires.grade in search (rules, fits)

pub returns-clause-within : goal.returns-clause-within
returns-clause-within c =
    let fits = scaled_fits c.args.flow c.args.grade c.requires.flow c.requires.grade in
    let most = scaled_most c.args.flow c.args.grade c.requires.flow c.requires.grade in
    search (rules, fits, most)
