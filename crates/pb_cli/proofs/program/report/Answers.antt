use Rattle.std.proofs.Common.{◌≡◌, ◌∙◌, ℕ, ◌≤◌, List, [], ◌∷◌, ◌++◌, arith, ap, subst, sym}
use Rattle.pb_cli.specs.Program.{PutsUnlessFault, error_line, line_feed}
use Rattle.pb_cli.specs.Status.{status_number}
use Rattle.pb_cli.proofs.ProgramLemmas.{line_of_name, put_unless_fault}
use Rattle.pb_cli.proofs.program.report.Goals as goal

-- the name isn't that of a success
pub returns-clause-line : goal.returns-clause-line
returns-clause-line g c =
    let old = g.E.Sink.seen c.args.errors.now in
    let new = g.E.Sink.seen c.write_line.new.errors in
    let name = c.name.result.now in
    let beyond : 2 ≤ status_number c.args.status = omega arith in
    let line : error_line c.args.status ≡ name ++ line_feed ∷ [] = line_of_name c.args.status beyond ∙ ap (λ (n : List ℕ). n ++ line_feed ∷ []) (sym c.name.ensures) in
    subst (λ (bytes : List ℕ). PutsUnlessFault old new bytes) (sym line)
    (put_unless_fault c.write_line.result old new (name ++ line_feed ∷ []) c.write_line.ensures.whole c.write_line.ensures.prefix c.write_line.ensures.cause)
