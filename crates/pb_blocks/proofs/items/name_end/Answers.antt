use Rattle.std.specs.Prelude.{not}
use Rattle.std.specs.List.{position}
use Rattle.std.proofs.Common.{◌≡◌, sym, ◌∙◌, rules, tests}
use Rattle.std.proofs.lemmas.Iterator.{YieldsList-from_slice}
use Rattle.std.proofs.lemmas.Iterator.Search.{position_from_yields_List}
use Rattle.pb_rows.specs.Name.{is_name_byte}
use Rattle.pb_blocks.proofs.ItemLemmas.{place_found, place_of_none}
use Rattle.pb_blocks.proofs.items.name_end.Goals as goal

pub returns-in-Some-clause-value : goal.returns-in-Some-clause-value
returns-in-Some-clause-value c =
    let found : c.position.result ≡ position (λ byte. not (is_name_byte byte)) c.args.text.now = position_from_yields_List (λ byte. not (is_name_byte byte)) _ _ c.position.result c.position.ensures.ran (YieldsList-from_slice _ c.iter.ensures.rest) (λ x b q k. search (rules, tests)) in
    place_found (λ byte. not (is_name_byte byte)) c.args.text.now c.in-Some.end (sym found ∙ c.in-Some.is)

pub returns-in-None-clause-value : goal.returns-in-None-clause-value
returns-in-None-clause-value c =
    let found : c.position.result ≡ position (λ byte. not (is_name_byte byte)) c.args.text.now = position_from_yields_List (λ byte. not (is_name_byte byte)) _ _ c.position.result c.position.ensures.ran (YieldsList-from_slice _ c.iter.ensures.rest) (λ x b q k. search (rules, tests)) in
    sym (place_of_none (λ byte. not (is_name_byte byte)) c.args.text.now (sym found ∙ c.in-None.is))
