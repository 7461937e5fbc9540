use Rattle.std.proofs.Common.{arith}
use Rattle.std.proofs.lemmas.Int.{ints}
use Rattle.pb_make.proofs.RequestLemmas.{january_is}
use Rattle.pb_make.proofs.rows.january.Goals as goal

pub returns : goal.returns
returns c = omega (arith, ints, c.from.ensures, c.ranges.day, january_is c.args.day c.requires)
