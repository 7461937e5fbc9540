use Rattle.std.proofs.Common.{◌≡◌, take}
use Rattle.pb_session.specs.Keeping.{classes_in}
use Rattle.pb_session.proofs.classes.classes_in.Given as goal

abbrev pub invariant-loop-result : goal.invariant-loop-result
invariant-loop-result l = l.classes ≡ classes_in (take l.result-index l.results)
