use Rattle.std.proofs.Common.{◌∙◌, ◌≤◌, ◌+◌, length, arith, sym, inl, inr}
use Rattle.std.proofs.lemmas.Bool.{cases_lt}
use Rattle.pb_form.proofs.TellingLemmas.{no_more, word_on}
use Rattle.pb_form.proofs.telling.agrees.Goals as goal

pub loop-i-preserved : goal.loop-i-preserved
loop-i-preserved c =
    elim (cases_lt c.loop-i.i (length c.args.fields.now)) [
      | inl has ↦
          word_on c.args.columns.now c.args.fields.now c.loop-i.i _ c.loop-i-test.true has (sym (c.has_word.ensures.there has) ∙ c.if-not-has_word.false)
          ∙ c.loop-i.invariant
      | inr ended ↦
          let later : length c.args.fields.now ≤ c.loop-i.i + 1 = omega (arith, ended) in
          no_more _ _ _ later ∙ sym (no_more _ _ _ ended) ∙ c.loop-i.invariant
    ]
