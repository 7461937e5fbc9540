use Rattle.std.proofs.Common.{◌≡◌, ◌==◌, sym, ◌∙◌, rules, tests}
use Rattle.std.specs.List.{position}
use Rattle.std.proofs.lemmas.Iterator.{YieldsList-from_slice}
use Rattle.std.proofs.lemmas.Iterator.Search.{position_from_yields_List}
use Rattle.pb_blocks.specs.Lists.{space}
use Rattle.pb_blocks.proofs.ItemLemmas.{place_found, place_of_none}
use Rattle.pb_blocks.proofs.items.item_end.Goals as goal

pub returns-in-Some : goal.returns-in-Some
returns-in-Some c =
    let found : c.position.result ≡ position (λ byte. byte == space) c.args.text.now = position_from_yields_List (λ byte. byte == space) _ _ c.position.result c.position.ensures.ran (YieldsList-from_slice _ c.iter.ensures.rest) (λ x b q k. search (rules, tests)) in
    place_found (λ byte. byte == space) c.args.text.now c.in-Some.end (sym found ∙ c.in-Some.is)

pub returns-in-None : goal.returns-in-None
returns-in-None c =
    let found : c.position.result ≡ position (λ byte. byte == space) c.args.text.now = position_from_yields_List (λ byte. byte == space) _ _ c.position.result c.position.ensures.ran (YieldsList-from_slice _ c.iter.ensures.rest) (λ x b q k. search (rules, tests)) in
    sym (place_of_none (λ byte. byte == space) c.args.text.now (sym found ∙ c.in-None.is))
