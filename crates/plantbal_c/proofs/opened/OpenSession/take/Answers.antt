use Rattle.std.proofs.Common.{rules, ◌≡◌, ◌∙◌, ℕ, ◌+◌, ap, subst, sym}
use Rattle.pb_session.specs.Session.{Adds, state_after}
use Rattle.plantbal_c.specs.Block.{TakesOne, code_of}
use Rattle.plantbal_c.specs.Opened.{Opened}
use Rattle.plantbal_c.proofs.opened.OpenSession.take.Goals as goal

-- the record is refused
pub returns-in-Ok-Some-clause-ok : goal.returns-in-Ok-Some-clause-ok
returns-in-Ok-Some-clause-ok c =
    let state = c.self.inside.session.state in
    let row = c.args.row.now in
    let new : Opened = record { state = c.row.new.self.state; taken = c.in-Some.at; text = c.row.new.out.items } in
    let at : c.in-Some.at ≡ c.self.inside.taken + 1 = search rules in
    let (added, is, adds) = c.in-Ok-Some.ensures.ok in
    subst (λ (old : Opened). TakesOne old new row c.code.result) c.self.view_is (record {
      counted = at;
      stored = c.in-Ok-Some.ensures.stored ∙ ap (λ (k : ℕ). state_after state k row) at;
      answer = c.code.ensures.value ∙ ap code_of (sym c.in-Ok-Some.field-0-is ∙ c.in-Ok-Some.ensures.refused);
      added = added;
      adds = subst (λ (k : ℕ). Adds state k row added) at adds;
      text = is;
    })

-- it is accepted
pub returns-in-Ok-None-clause-ok : goal.returns-in-Ok-None-clause-ok
returns-in-Ok-None-clause-ok c =
    let state = c.self.inside.session.state in
    let row = c.args.row.now in
    let new : Opened = record { state = c.row.new.self.state; taken = c.in-Some.at; text = c.row.new.out.items } in
    let at : c.in-Some.at ≡ c.self.inside.taken + 1 = search rules in
    let (added, is, adds) = c.in-Ok-None.ensures.ok in
    subst (λ (old : Opened). TakesOne old new row 0) c.self.view_is (record {
      counted = at;
      stored = c.in-Ok-None.ensures.stored ∙ ap (λ (k : ℕ). state_after state k row) at;
      answer = ap code_of (sym c.in-Ok-None.field-0-is ∙ c.in-Ok-None.ensures.refused);
      added = added;
      adds = subst (λ (k : ℕ). Adds state k row added) at adds;
      text = is;
    })
