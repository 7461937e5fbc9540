use Rattle.std.proofs.Common.{◌≡◌, ◌∙◌, ◌<◌, ◌+◌, ◌-◌, ℕ, [], length, get_or, take, ap, arith}
use Rattle.pb_report.specs.declared.form.Form.TheVariants.{Csv}
use Rattle.pb_session.specs.Session.{new_session, state_after, state_after_all}
use Rattle.pb_cli.proofs.StateLemmas.{state_more}
use Rattle.pb_cli.proofs.texts.stored.Goals as goal

pub loop-i-preserved : goal.loop-i-preserved
loop-i-preserved c =
    let rows = c.args.rows.now in
    let i = c.loop-i.i in
    let lt : i < length rows = omega (arith, c.loop-i-test.true, c.loop-i.invariant.end) in
    let at : c.at.result.now ≡ get_or rows i [] = c.at.ensures in
    let new_is = c.in_ok-row.ensures.stored ∙ ap (state_after c.loop-i.session.state (i + 1)) at in
    record {
      so_far = state_more (new_session c.args.options Csv) c.loop-i.session.state c.row.new.self.state rows i lt c.loop-i.invariant.so_far new_is;
      end = c.loop-i.invariant.end;
    }

pub returns : goal.returns
returns c =
    let rows = c.args.rows.now in
    let all : c.loop-i.i ≡ length rows - 1 = omega (arith, c.loop-i.auto.i-end, c.loop-i-test.false, c.loop-i.invariant.end) in
    c.loop-i.invariant.so_far ∙ ap (λ (n : ℕ). state_after_all (new_session c.args.options Csv) 1 (take n rows)) all
