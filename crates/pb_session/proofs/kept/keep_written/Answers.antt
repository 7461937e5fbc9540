use Rattle.std.proofs.Common.{◌∙◌, Option, ap, sym}
use Rattle.pb_study.specs.declared.results.Study.{Study}
use Rattle.pb_session.specs.Keeping.{place_in, settled, settled_stage, studies_behind}
use Rattle.pb_session.proofs.KeptLemmas.{placed_stage, settled_none, settled_place, unplaced_stage}
use Rattle.pb_session.proofs.kept.keep_written.Goals as goal

-- the kept study is put first
pub returns-in-Some-place_of-clause-kept : goal.returns-in-Some-place_of-clause-kept
returns-in-Some-place_of-clause-kept c =
    let i = c.args.period in
    let items = c.args.kept.now.items in
    let k = c.remove-found.result in
    let place = settled_place i items c.in-Some-place_of.place k (ap (place_in i) (sym c.deref.ensures.value) ∙ sym c.place_of.ensures ∙ c.in-Some-place_of.is) c.remove-found.ensures.value in
    c.keep_study-in-Some-place_of.ensures.kept ∙ ap (studies_behind i k.study) c.remove-found.ensures.items ∙ place
    ∙ ap (λ (made : Option Study). settled i made items) (sym c.in-None.is)

pub returns-in-Some-place_of-clause-stage : goal.returns-in-Some-place_of-clause-stage
returns-in-Some-place_of-clause-stage c =
    let i = c.args.period in
    let items = c.args.kept.now.items in
    let k = c.remove-found.result in
    let place = placed_stage i items c.in-Some-place_of.place k (ap (place_in i) (sym c.deref.ensures.value) ∙ sym c.place_of.ensures ∙ c.in-Some-place_of.is) c.remove-found.ensures.value in
    c.keep_study-in-Some-place_of.ensures.stage ∙ place ∙ ap (λ (made : Option Study). settled_stage i made items) (sym c.in-None.is)

pub returns-in-None-place_of-clause-kept : goal.returns-in-None-place_of-clause-kept
returns-in-None-place_of-clause-kept c =
    settled_none c.args.period c.args.kept.now.items (ap (place_in c.args.period) (sym c.deref.ensures.value) ∙ sym c.place_of.ensures ∙ c.in-None-place_of.is)
    ∙ ap (λ (made : Option Study). settled c.args.period made c.args.kept.now.items) (sym c.in-None.is)

pub returns-in-None-place_of-clause-stage : goal.returns-in-None-place_of-clause-stage
returns-in-None-place_of-clause-stage c =
    unplaced_stage c.args.period c.args.kept.now.items (ap (place_in c.args.period) (sym c.deref.ensures.value) ∙ sym c.place_of.ensures ∙ c.in-None-place_of.is)
    ∙ ap (λ (made : Option Study). settled_stage c.args.period made c.args.kept.now.items) (sym c.in-None.is)
