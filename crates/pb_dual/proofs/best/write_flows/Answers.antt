use Rattle.std.specs.List.{AllByRecursion}
use Rattle.std.proofs.Common.{◌≡◌, ◌≢◌, ◌∙◌, ◌<◌, ℤ, pos, false, List, FitsSigned, length, get_or, sym, subst, arith, rules}
use mir.Syntax.{w128}
use Rattle.std.proofs.lemmas.List.{drop_all, ext_get_or}
use Rattle.std.proofs.Math.Facts.{to_z-of_z}
use Rattle.pb_fixed.proofs.Lists.{all_at}
use Rattle.pb_dual.specs.declared.border.BorderStream.{BorderStream}
use Rattle.pb_dual.specs.Border.{border_stream_flow}
use Rattle.pb_fixed.specs.Sums.{item}
use Rattle.pb_dual.proofs.FlowLemmas.{write_more}
use Rattle.pb_dual.proofs.best.write_flows.Goals as goal

abbrev some_border_stream : BorderStream
some_border_stream = record { stream = 0; other = 0; enters = false; value = pos 0; variance = pos 0; room = pos 0 }

pub loop-stream-preserved : goal.loop-stream-preserved
loop-stream-preserved c =
    let border = c.args.border.now in
    let i = c.loop-stream.stream-index in
    let here : i < length border = c.loop-stream-test.true in
    let inv = c.loop-stream.invariant in
    let a = get_or border i some_border_stream in
    let x : ℤ = c.flow_along.result in
    let fits : FitsSigned w128 x = record { sfits = c.flow_along.type_inv } in
    let there = c.requires.there i some_border_stream here in
    simp to_z-of_z (record {
      each = search rules;
      left = λ others size have same.
          let at = all_at (λ (a : BorderStream). item others a.stream ≡ border_stream_flow c.args.prices.now c.args.group a) border i some_border_stream have here in
          write_more border c.loop-stream.flows others i some_border_stream x here (omega (arith, there, inv.each)) (c.flow_along.ensures ∙ sym at) (inv.left others size have same);
    })

pub returns : goal.returns
returns c others size have same =
    let left = c.loop-stream.invariant.left others size have same in
    ext_get_or (pos 0) c.loop-stream.flows others (c.loop-stream.invariant.each ∙ sym size) (λ j lt. left j (subst (λ (b : List BorderStream). AllByRecursion (λ a. a.stream ≢ j) b) (sym (drop_all c.loop-stream.stream-index c.args.border.now c.loop-stream-test.false)) tt))
