use Rattle.std.proofs.Common.{◌↔◌, rules}
use Rattle.std.specs.Prelude.{IsTrue}
use Rattle.pb_gap.specs.Gap.{MeetsGap}
use Rattle.pb_stage.specs.Printed.{printed_gap, printed_price}
use Rattle.pb_check.proofs.StateLemmas.{met_printed}
use Rattle.pb_check.proofs.numbers.state_fault.Goals as goal

pub returns-then-is_state : goal.returns-then-is_state
returns-then-is_state c =
    let stage = c.args.stage.now in
    let met : IsTrue c.is_met-met.result ↔ MeetsGap c.args.gap (printed_gap stage) =
    met_printed stage c.args.pair.now c.args.gap (IsTrue c.is_met-met.result) c.requires.pair c.requires.gap_is (c.is_met-met.ensures.met (printed_price stage) c.requires.pair.prices) in
    (c.is_state.ensures c.args.gap (printed_gap stage) met).0 c.if-is_state.true

pub returns : goal.returns
returns c =
    let stage = c.args.stage.now in
    let met : IsTrue c.is_met-met.result ↔ MeetsGap c.args.gap (printed_gap stage) =
    met_printed stage c.args.pair.now c.args.gap (IsTrue c.is_met-met.result) c.requires.pair c.requires.gap_is (c.is_met-met.ensures.met (printed_price stage) c.requires.pair.prices) in
    let said = c.is_state.ensures c.args.gap (printed_gap stage) met in
    (λ is. let yes_ = said.1 is in cc (yes_, c.if-is_state.false), search rules)
