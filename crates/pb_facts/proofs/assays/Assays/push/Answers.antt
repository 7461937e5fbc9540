use Rattle.std.specs.Prelude.{true, if◌then◌else◌}
use Rattle.std.specs.List.{list_any}
use Rattle.std.proofs.Common.{◌∙◌, Bool, ap}
use Rattle.pb_facts.specs.Kept.{same_three, same_two}
use Rattle.pb_facts.proofs.AssayLemmas.{assays_push, assays_same_keys}
use Rattle.pb_facts.proofs.assays.Assays.push.Goals as goal

pub invariant_of-self-in_err-reserve-3 : goal.invariant_of-self-in_err-reserve-3
invariant_of-self-in_err-reserve-3 c =
    let inside = c.self.inside in
    rw c.in_ok-reserve.ensures.items
    (assays_same_keys inside.assays.items inside.all _ inside.overs _ c.self.invariant c.in_ok-reserve-2.ensures.keys.2 (λ q. ap (list_any (same_two q)) c.in_err-reserve-3.ensures.err))

pub invariant_of-self-2 : goal.invariant_of-self-2
invariant_of-self-2 c =
    let inside = c.self.inside in
    let assay = c.args.assay in
    let new = rw (← c.self.view_is) at c.requires.new in
    let room = rw (← c.self.view_is) at c.requires.room in
    rw (c.push_reserved.ensures.items, c.in_ok-reserve.ensures.items)
    (assays_push inside.assays.items inside.all _ inside.overs _ assay c.self.invariant c.requires.grade new room
    (λ q. c.put.ensures q ∙ ap (λ (b : Bool). if same_three ((assay.component, assay.period), assay.stream) q then true else b) (c.in_ok-reserve-2.ensures.keys.2 q))
    (λ q. c.put-2.ensures q ∙ ap (λ (b : Bool). if same_two (assay.component, assay.period) q then true else b) (c.in_ok-reserve-3.ensures.keys.2 q)))
