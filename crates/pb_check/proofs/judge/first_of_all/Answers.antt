use Rattle.std.proofs.Common.{Some, None, subst, arith}
use Rattle.std.proofs.lemmas.Result.{IfOk-weaker}
use Rattle.pb_check.specs.Among.{IsAmong}
use Rattle.pb_check.proofs.AmongLemmas.{code_least, joined, longer}
use Rattle.pb_check.proofs.judge.first_of_all.Goals as goal

-- the first six tests fail
pub returns-in-Some : goal.returns-in-Some
returns-in-Some c =
    let stage = c.args.stage.now in
    let gap = c.args.gap in
    let sweeps = c.args.sweeps in
    let among : IsAmong stage gap sweeps 1 6 (Some c.in-Some.first) = subst (IsAmong stage gap sweeps 1 6) c.in-Some.is (c.in_ok-first.ensures gap sweeps) in
    longer stage gap sweeps 1 6 13 c.in-Some.first (omega arith) among

pub first_of_flows-requires-clause-earlier : goal.first_of_flows-requires-clause-earlier
first_of_flows-requires-clause-earlier c =
    let stage = c.args.stage.now in
    let gap = c.args.gap in
    let sweeps = c.args.sweeps in
    let six : IsAmong stage gap sweeps 1 6 None = subst (IsAmong stage gap sweeps 1 6) c.in_default.is (c.in_ok-first.ensures gap sweeps) in
    λ test less. six test (code_least test) (omega (arith, less))

-- the others decide
pub returns : goal.returns
returns c =
    let stage = c.args.stage.now in
    let gap = c.args.gap in
    let sweeps = c.args.sweeps in
    let six : IsAmong stage gap sweeps 1 6 None = subst (IsAmong stage gap sweeps 1 6) c.in_default.is (c.in_ok-first.ensures gap sweeps) in
    IfOk-weaker c.first_of_flows.result (IsAmong stage gap sweeps 7 13) (IsAmong stage gap sweeps 1 13)
    (λ first rest. joined stage gap sweeps 1 6 13 first (omega arith) (omega arith) six rest) c.first_of_flows.ensures
