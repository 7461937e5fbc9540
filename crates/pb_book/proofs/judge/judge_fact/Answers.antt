use Rattle.std.proofs.Common.{◌∙◌, [], Some, ap, sym}
use Rattle.std.specs.Prelude.{is_some}
use Rattle.pb_site.specs.Site.{version_of}
use Rattle.pb_book.proofs.FactLemmas.{first_with, with_fault, without_fault}
use Rattle.pb_book.proofs.judge.judge_fact.Goals as goal

pub returns-in-Some : goal.returns-in-Some
returns-in-Some c =
    let site = c.args.site.now in
    ap Some c.first_cause.ensures ∙ first_with (version_of site) site c.args.facts.now c.args.periods.now [] c.args.fact.now c.args.late c.in-Some.cause c.in-Some.ensures

pub returns-then-is_some : goal.returns-then-is_some
returns-then-is_some c =
    let site = c.args.site.now in
    let fault = ap is_some (sym c.judge.ensures) ∙ sym c.is_some.ensures ∙ c.if-is_some.true in
    ap Some c.fault_cause.ensures ∙ sym (with_fault (version_of site) site c.args.facts.now c.args.periods.now [] c.args.fact.now c.args.late c.in-None.ensures fault)

pub returns-else-is_some : goal.returns-else-is_some
returns-else-is_some c =
    let site = c.args.site.now in
    let none = ap is_some (sym c.judge.ensures) ∙ sym c.is_some.ensures ∙ c.if-is_some.false in
    sym (without_fault (version_of site) site c.args.facts.now c.args.periods.now [] c.args.fact.now c.args.late c.in-None.ensures none)
