use Rattle.std.proofs.Common.{codes, true, refl, arith}
use Rattle.pb_limits.specs.Limits.{most_critical}
use Rattle.pb_form.specs.OutputRows.{output_columns}
use Rattle.pb_form.specs.declared.output.OutputKind.TheVariants.{Nodal}
use Rattle.pb_blocks.proofs.FitLemmas.{count_at}
use Rattle.pb_blocks.proofs.values.said_nodal.Goals as goal

pub critical-requires : goal.critical-requires
critical-requires c =
    count_at (output_columns Nodal) c.args.values.now 4 (codes "critical") 0 most_critical 9223372036854775807 true c.requires refl (omega arith)
