use Rattle.std.proofs.Common.{◌∙◌, ◌≤◌, ◌<◌, length, arith, sym}
use Rattle.std.proofs.lemmas.List.{append-nil, drop_all}
use Rattle.pb_form.proofs.RowTextLemmas.{one_text}
use Rattle.pb_form.proofs.texts.write_texts.Goals as goal

pub loop-i-preserved : goal.loop-i-preserved
loop-i-preserved c =
    let has : c.loop-i.i < length c.args.values.now = omega (arith, c.requires, c.loop-i-test.true) in
    record {
      texts = c.in_ok-push_text.ensures.texts c.loop-i.invariant.texts;
      rest = rw c.in_ok-push_text.ensures.adds (one_text _ _ c.loop-i.row c.loop-i.i _ _ _ c.loop-i-test.true has c.loop-i.invariant.rest);
    }

pub returns-clause-fields : goal.returns-clause-fields
returns-clause-fields c =
    let ended : length c.args.columns.now ≤ c.loop-i.i = c.loop-i-test.false in
    sym (append-nil c.loop-i.row) ∙ rw (drop_all c.loop-i.i c.args.columns.now ended) at c.loop-i.invariant.rest
