use Rattle.std.proofs.Common.{None, refl}
use Rattle.pb_book.proofs.ChangeLemmas.{edit_cause, edit_unknown}
use Rattle.pb_book.proofs.judge.judge_edit.Goals as goal

pub returns-in_default : goal.returns-in_default
returns-in_default c = edit_unknown c.args.site.now c.args.facts.now c.args.id.now c.args.edit.now c.in_default.ensures.value

pub returns-in-Change : goal.returns-in-Change
returns-in-Change c =
    edit_cause c.args.site.now c.args.facts.now c.args.id.now c.args.edit.now c.in-Some.place c.kept-fact.result c.cause_of_change.result c.in-Some.ensures.value c.kept-fact.ensures.value
    c.in-Some.ensures.no_repeats (rw c.in-Change.is c.cause_of_change.ensures)

pub returns-in-Strike : goal.returns-in-Strike
returns-in-Strike c =
    edit_cause c.args.site.now c.args.facts.now c.args.id.now c.args.edit.now c.in-Some.place c.kept-fact.result None c.in-Some.ensures.value c.kept-fact.ensures.value
    c.in-Some.ensures.no_repeats (rw c.in-Strike.is refl)
