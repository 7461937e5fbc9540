use Rattle.std.proofs.Common.{codes, false, refl, arith, ◌^◌}
use Rattle.pb_limits.specs.Limits.{most_freedom, most_sweeps}
use Rattle.pb_form.specs.OutputRows.{output_columns}
use Rattle.pb_form.specs.declared.output.OutputKind.TheVariants.{Solved}
use Rattle.pb_blocks.proofs.FitLemmas.{count_at}
use Rattle.pb_blocks.proofs.values.said_solution.Goals as goal

pub natural-requires : goal.natural-requires
natural-requires c = count_at (output_columns Solved) c.args.values.now 1 (codes "k") 0 most_sweeps 4294967295 false c.requires refl (omega arith)

pub long_natural-requires : goal.long_natural-requires
long_natural-requires c = count_at (output_columns Solved) c.args.values.now 3 (codes "g") 0 (2 ^ 63) 18446744073709551615 false c.requires refl (omega arith)

pub natural-requires-2 : goal.natural-requires-2
natural-requires-2 c = count_at (output_columns Solved) c.args.values.now 4 (codes "h") 0 32 4294967295 false c.requires refl (omega arith)

pub natural-requires-3 : goal.natural-requires-3
natural-requires-3 c = count_at (output_columns Solved) c.args.values.now 5 (codes "dof") 0 most_freedom 4294967295 false c.requires refl (omega arith)
