use Rattle.std.proofs.Common.{◌≡◌, ◌∙◌, sym, true, false, ap, Bool}
use Rattle.std.specs.Prelude.{◌||◌}
use Rattle.std.specs.List.{list_any}
use Rattle.pb_facts.specs.Fact.{id_of}
use Rattle.pb_facts.specs.Facts.{has_id, is_repeat_by_day}
use Rattle.pb_facts.proofs.PlaceLemmas.{list_any-or}
use Rattle.pb_facts.proofs.facts.Facts.repeats.Goals as goal

pub returns-then-has_id : goal.returns-then-has_id
returns-then-has_id c =
    let split = list_any-or (has_id (id_of c.args.fact.now)) (is_repeat_by_day c.args.fact.now) c.args.self.now in
    let used : list_any (has_id (id_of c.args.fact.now)) c.args.self.now ≡ true = rw c.id.ensures at (sym c.has_id.ensures ∙ c.if-has_id.true) in
    c.if-has_id.true ∙ sym (split ∙ ap (λ (b : Bool). b || list_any (is_repeat_by_day c.args.fact.now) c.args.self.now) used)

pub returns-else-has_id : goal.returns-else-has_id
returns-else-has_id c =
    let split = list_any-or (has_id (id_of c.args.fact.now)) (is_repeat_by_day c.args.fact.now) c.args.self.now in
    let free : list_any (has_id (id_of c.args.fact.now)) c.args.self.now ≡ false = rw c.id.ensures at (sym c.has_id.ensures ∙ c.if-has_id.false) in
    c.has_day_of.ensures ∙ sym (split ∙ ap (λ (b : Bool). b || list_any (is_repeat_by_day c.args.fact.now) c.args.self.now) free)
