use Rattle.std.proofs.Common.{codes, false, refl, arith}
use Rattle.pb_limits.specs.Limits.{most_gap, most_nodes, most_rounds, most_streams, most_sweeps}
use Rattle.pb_form.specs.OutputRows.{output_columns}
use Rattle.pb_form.specs.declared.output.OutputKind.TheVariants.{Report}
use Rattle.pb_blocks.proofs.FitLemmas.{count_at, counted}
use Rattle.pb_blocks.proofs.heading.said_heading.Goals as goal
use Rattle.pb_form.specs.Values.{value_at, number_in}

pub natural-requires : goal.natural-requires
natural-requires c = count_at (output_columns Report) c.args.values.now 2 (codes "round") 0 most_rounds 4294967295 false c.requires.fit refl (omega arith)

pub natural-requires-2 : goal.natural-requires-2
natural-requires-2 c = counted 1 most_nodes 4294967295 (value_at number_in c.args.values.now 3) c.requires.counts.env c.requires.counts.few_nodes (omega arith)

pub natural-requires-3 : goal.natural-requires-3
natural-requires-3 c = counted 0 most_streams 4294967295 (value_at number_in c.args.values.now 4) c.requires.counts.natural c.requires.counts.few_streams (omega arith)

pub natural-requires-4 : goal.natural-requires-4
natural-requires-4 c = count_at (output_columns Report) c.args.values.now 5 (codes "gap") 1 most_gap 4294967295 false c.requires.fit refl (omega arith)

pub natural-requires-5 : goal.natural-requires-5
natural-requires-5 c = count_at (output_columns Report) c.args.values.now 6 (codes "sweeps") 0 most_sweeps 4294967295 false c.requires.fit refl (omega arith)
