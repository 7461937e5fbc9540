use Rattle.std.proofs.Common.{◌≡◌, ◌∙◌, ℕ, Option, Some, false, ap, sym}
use Rattle.std.specs.Prelude.{is_some, if◌then◌else◌}
use Rattle.std.specs.Global.{Vec}
use Rattle.std.specs.HashMap.{get}
use Rattle.pb_facts.specs.Places.{same_key}
use Rattle.pb_facts.proofs.TransferLemmas.{same_places, same_room}
use Rattle.pb_facts.proofs.places.add_entry.Goals as goal

pub returns-clause-same : goal.returns-clause-same
returns-clause-same c =
    let absent : is_some (get same_key c.args.transfers.now c.args.key) ≡ false = sym c.contains_key.ensures ∙ c.if-contains_key.false in
    same_places c.args.transfers.now c.put.new.map c.args.key c.new.result c.new.ensures.items absent
    (λ q. c.put.ensures q ∙ ap (λ (o : Option (Vec ℕ)). if same_key c.args.key q then Some c.new.result else o) (c.in_ok-reserve.ensures.entries.2 q))

pub returns-clause-others : goal.returns-clause-others
returns-clause-others c =
    let absent : is_some (get same_key c.args.transfers.now c.args.key) ≡ false = sym c.contains_key.ensures ∙ c.if-contains_key.false in
    same_room c.args.transfers.now c.put.new.map c.args.key c.new.result absent
    (λ q. c.put.ensures q ∙ ap (λ (o : Option (Vec ℕ)). if same_key c.args.key q then Some c.new.result else o) (c.in_ok-reserve.ensures.entries.2 q))
