use Rattle.pb_blocks.proofs.FitLemmas.{measured}
use Rattle.pb_blocks.proofs.values.said_arc.Goals as goal

pub returns-clause-limits : goal.returns-clause-limits
returns-clause-limits c = rw (c.both_meas.ensures, c.number.ensures, c.number-2.ensures) (measured c.args.kind c.args.values.now c.requires.stream c.requires.fit)
