use Rattle.std.proofs.Common.{rules, [], ◌∷◌}
use Rattle.pb_cli.specs.Program.{line_feed}
use Rattle.pb_cli.proofs.ProgramLemmas.{name_cut}
use Rattle.pb_cli.proofs.TextLemmas.{any_err}
use Rattle.pb_cli.proofs.program.write_line.Goals as goal

-- if a name is cut short, so is its line
pub returns-in_err-write_all-clause-prefix : goal.returns-in_err-write_all-clause-prefix
returns-in_err-write_all-clause-prefix g c =
    any_err c.from_residual.result _ (λ e.
    name_cut (g.E.Sink.seen c.args.errors.now) (g.E.Sink.seen c.write_all.new.sink) c.args.name.now c.as_bytes.result.now (line_feed ∷ []) (search rules) c.in_err-write_all.ensures.prefix)
