use Rattle.std.specs.Prelude.{IfSome, Option, map, take}
use Rattle.std.proofs.Common.{◌≡◌, ◌∙◌, ◌+◌, ◌++◌, ◌∷◌, [], List, suc, arith, ap, sym}
use Rattle.std.proofs.lemmas.List.Elements.{All-push}
use Rattle.pb_facts.specs.Grade.{IsGrade}
use Rattle.pb_facts.specs.declared.grade.Grade.{Grade}
use Rattle.pb_facts.specs.Assays.{grade_among}
use Rattle.pb_facts.proofs.AssayLemmas.{images_more}
use Rattle.pb_facts.proofs.assays.Assays.grades.Goals as goal

pub loop-i-preserved : goal.loop-i-preserved
loop-i-preserved c =
    let streams = c.args.streams.now in
    let i = c.loop-i.i in
    let stream = c.index-streams-i.result in
    let by_name = c.in_ok-by_name.ensures in
    let grade = grade_among c.args.self.now c.args.component.now c.args.period.now in
    let next : i + 1 ≡ suc i = omega arith in
    let is : c.grade_at.result ≡ grade stream = c.grade_at.ensures ∙ by_name.value stream in
    let within : IfSome c.grade_at.result IsGrade = rw c.grade_at.ensures (by_name.limits stream) in
    let items : c.push.new.self.items ≡ c.loop-i.grades.items ++ c.grade_at.result ∷ [] = c.in_ok-push.ensures.items in
    rw (next, items) (record {
      value =
          ap (λ (gs : List (Option Grade)). gs ++ c.grade_at.result ∷ []) c.loop-i.invariant.value
          ∙ ap (λ (g : Option Grade). map grade (take i streams) ++ g ∷ []) is
          ∙ sym (images_more grade streams i stream c.loop-i-test.true c.index-streams-i.is);
      limits = All-push (λ (g : Option Grade). IfSome g IsGrade) c.loop-i.grades.items c.grade_at.result c.loop-i.invariant.limits within;
    })
