use Rattle.std.proofs.Common.{Some, subst}
use Rattle.pb_check.specs.Among.{IsAmong}
use Rattle.pb_check.proofs.VerdictLemmas.{place_of}
use Rattle.pb_check.proofs.judge.check.Goals as goal

pub returns-in-Ok-Some-clause-place : goal.returns-in-Ok-Some-clause-place
returns-in-Ok-Some-clause-place c =
    let stage = c.args.stage.now in
    let test = c.in-Ok-Some.test in
    let fault = c.in-Ok-Some.fault in
    let among : IsAmong stage c.args.gap c.args.sweeps 1 13 (Some (test, fault)) =
    subst (IsAmong stage c.args.gap c.args.sweeps 1 13) c.in-Ok-Some.field-0-is c.in-Ok-Some.ensures in
    place_of stage c.args.gap c.args.sweeps test fault c.requires.formed among.2
