use Rattle.std.proofs.Common.{◌∙◌, ◌++◌, ℕ, List, ap, arith}
use Rattle.pb_rows.proofs.JoinLemmas.{all_joined, first_joined, next_joined}
use Rattle.pb_rows.proofs.row.Row.join_to.Goals as goal

pub loop-i-init : goal.loop-i-init
loop-i-init c = record {
  some = omega arith;
  so_far = c.in_ok-extend_from_slice.ensures.items ∙ ap (λ (field : List ℕ). c.args.text.now.items ++ field) c.field.ensures ∙ first_joined c.args.text.now.items c.args.self.now c.requires.several c.requires.plain;
}

pub loop-i-preserved : goal.loop-i-preserved
loop-i-preserved c =
    let old = c.args.text.now.items in
    let here = c.loop-i.text.items in
    let within = rw c.len-i-end.ensures at c.loop-i-test.true in
    let more = next_joined old here c.args.self.now c.loop-i.i c.loop-i.invariant.some within c.requires.plain c.loop-i.invariant.so_far in
    record {
      some = omega arith;
      so_far = rw (c.in_ok-extend_from_slice-2.ensures.items, c.in_ok-push.ensures.items, c.field-in-loop-i.ensures) more;
    }

pub returns-clause-ok : goal.returns-clause-ok
returns-clause-ok c =
    let ended = rw c.len-i-end.ensures at c.loop-i-test.false in
    c.in_ok-push-2.ensures.items ∙ all_joined c.args.text.now.items c.loop-i.text.items c.args.self.now c.loop-i.i c.requires.several ended c.loop-i.invariant.so_far
