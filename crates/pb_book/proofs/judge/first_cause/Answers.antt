use Rattle.std.proofs.Common.{◌∙◌, sym}
use Rattle.pb_book.proofs.FactLemmas.{duplicate_first, itself_first}
use Rattle.pb_book.proofs.judge.first_cause.Goals as goal

pub returns-in_default : goal.returns-in_default
returns-in_default c = duplicate_first c.args.cause c.args.facts.now c.args.fact.now c.in_default.not-Unknown (sym c.repeats.ensures ∙ c.if-repeats.true)

pub returns-in_default-2 : goal.returns-in_default-2
returns-in_default-2 c = itself_first c.args.cause c.args.facts.now c.args.fact.now (sym c.repeats.ensures ∙ c.if-repeats.false)
